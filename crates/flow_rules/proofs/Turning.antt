-- A list that is read with the skeletons exchanged and the flag turned is the same.
use Rattle.std.proofs.Common.{◌≡◌, ℕ, Bool, true, false, not, List, ◌++◌, Option, None, Some, refl, ◌∙◌, ap}
use Rattle.flow_graph.specs.declared.constraint.Link.{Link}
use Rattle.qual_types.specs.Skel.{Skel, flat, ref, fun, Skels, no_skels, more_skels, root}
use Rattle.flow_rules.specs.declared.arrow.Arrow.TheVariants.{Flow}
use Rattle.flow_rules.specs.Lists.{pair, both, pair_some, both_some, collapsed, extra, equal_uneven, equal, equals, flow_uneven, flow, flows}

join_same : (xs ys zs ws : List Link) → xs ≡ zs → ys ≡ ws → xs ++ ys ≡ zs ++ ws
join_same xs ys zs ws e f = ap (λ (l : List Link). l ++ ys) e ∙ ap (λ (l : List Link). zs ++ l) f

pair_turns : (f : Bool) (u v : ℕ) → pair Flow f u v ≡ pair Flow (not f) v u
pair_turns true u v = refl
pair_turns false u v = refl

both_turns : (f : Bool) (u v : ℕ) → both Flow f u v ≡ both Flow (not f) v u
both_turns true u v = refl
both_turns false u v = refl

-- a flow between further arguments is the same with both sides exchanged and the flag turned
pair_some_turns : (f : Bool) (e g : Option ℕ) → pair_some Flow f e g ≡ pair_some Flow (not f) g e
pair_some_turns f None None = refl
pair_some_turns f None (Some g) = refl
pair_some_turns f (Some e) None = refl
pair_some_turns f (Some e) (Some g) = pair_turns f e g

-- flows both ways between further arguments are the same with both sides exchanged and the flag turned
both_some_turns : (f : Bool) (e g : Option ℕ) → both_some Flow f e g ≡ both_some Flow (not f) g e
both_some_turns f None None = refl
both_some_turns f None (Some g) = refl
both_some_turns f (Some e) None = refl
both_some_turns f (Some e) (Some g) = both_turns f e g

collapsed_turns : (f : Bool) (a b : Skel) → collapsed Flow f a b ≡ collapsed Flow (not f) b a
collapsed_turns true a b = refl
collapsed_turns false a b = refl

extra_turns : (f : Bool) (ps : Skels) (e : Option ℕ) (qs : Skels) (g : Option ℕ)
    → extra Flow f ps e qs g ≡ extra Flow (not f) qs g ps e
extra_turns true ps e qs g = refl
extra_turns false ps e qs g = refl

-- two skeletons of two shapes that are made equal give the same links turned round
equal_apart : (f : Bool) (a b : Skel) → equal_uneven Flow f a b ≡ equal_uneven Flow (not f) b a
equal_apart f a b =
    join_same (both Flow f (root a) (root b)) (collapsed Flow f a b) (both Flow (not f) (root b) (root a))
    (collapsed Flow (not f) b a) (both_turns f (root a) (root b)) (collapsed_turns f a b)

-- a flow between skeletons of two shapes gives the same links turned round
flow_apart : (f : Bool) (a b : Skel) → flow_uneven Flow f a b ≡ flow_uneven Flow (not f) b a
flow_apart f a b =
    join_same (pair Flow f (root a) (root b)) (collapsed Flow f a b) (pair Flow (not f) (root b) (root a))
    (collapsed Flow (not f) b a) (pair_turns f (root a) (root b)) (collapsed_turns f a b)

mutual
  pub equal_turns : (f : Bool) (a b : Skel) → equal Flow f a b ≡ equal Flow (not f) b a
  equal_turns f (flat u k) (flat v l) = both_turns f u v
  equal_turns f (ref u a) (ref v b) =
      join_same (both Flow f u v) (equal Flow f a b) (both Flow (not f) v u) (equal Flow (not f) b a) (both_turns f u v)
      (equal_turns f a b)
  equal_turns f (fun u ps r e) (fun v qs s g) =
      join_same (both Flow f u v) _ (both Flow (not f) v u) _ (both_turns f u v)
      (join_same (equals Flow f ps qs) _ (equals Flow (not f) qs ps) _ (equals_turns f ps qs)
      (join_same (extra Flow f ps e qs g) _ (extra Flow (not f) qs g ps e) _ (extra_turns f ps e qs g)
      (join_same (equal Flow f r s) (both_some Flow f e g) (equal Flow (not f) s r) (both_some Flow (not f) g e)
      (equal_turns f r s) (both_some_turns f e g))))
  equal_turns f (flat u k) (ref v b) = equal_apart f (flat u k) (ref v b)
  equal_turns f (flat u k) (fun v qs s g) = equal_apart f (flat u k) (fun v qs s g)
  equal_turns f (ref u a) (flat v l) = equal_apart f (ref u a) (flat v l)
  equal_turns f (ref u a) (fun v qs s g) = equal_apart f (ref u a) (fun v qs s g)
  equal_turns f (fun u ps r e) (flat v l) = equal_apart f (fun u ps r e) (flat v l)
  equal_turns f (fun u ps r e) (ref v b) = equal_apart f (fun u ps r e) (ref v b)

  equals_turns : (f : Bool) (ps qs : Skels) → equals Flow f ps qs ≡ equals Flow (not f) qs ps
  equals_turns f no_skels no_skels = refl
  equals_turns f no_skels (more_skels q qs) = refl
  equals_turns f (more_skels p ps) no_skels = refl
  equals_turns f (more_skels p ps) (more_skels q qs) =
      join_same (equal Flow f p q) (equals Flow f ps qs) (equal Flow (not f) q p) (equals Flow (not f) qs ps)
      (equal_turns f p q) (equals_turns f ps qs)

mutual
  pub flow_turns : (f : Bool) (a b : Skel) → flow Flow f a b ≡ flow Flow (not f) b a
  flow_turns f (flat u k) (flat v l) = pair_turns f u v
  flow_turns f (ref u a) (ref v b) =
      join_same (pair Flow f u v) (equal Flow f a b) (pair Flow (not f) v u) (equal Flow (not f) b a) (pair_turns f u v)
      (equal_turns f a b)
  flow_turns f (fun u ps r e) (fun v qs s g) =
      join_same (pair Flow f u v) _ (pair Flow (not f) v u) _ (pair_turns f u v)
      (join_same (flows Flow (not f) ps qs) _ (flows Flow (not (not f)) qs ps) _ (flows_turn (not f) ps qs)
      (join_same (extra Flow f ps e qs g) _ (extra Flow (not f) qs g ps e) _ (extra_turns f ps e qs g)
      (join_same (flow Flow f r s) (pair_some Flow (not f) e g) (flow Flow (not f) s r)
      (pair_some Flow (not (not f)) g e) (flow_turns f r s) (pair_some_turns (not f) e g))))
  flow_turns f (flat u k) (ref v b) = flow_apart f (flat u k) (ref v b)
  flow_turns f (flat u k) (fun v qs s g) = flow_apart f (flat u k) (fun v qs s g)
  flow_turns f (ref u a) (flat v l) = flow_apart f (ref u a) (flat v l)
  flow_turns f (ref u a) (fun v qs s g) = flow_apart f (ref u a) (fun v qs s g)
  flow_turns f (fun u ps r e) (flat v l) = flow_apart f (fun u ps r e) (flat v l)
  flow_turns f (fun u ps r e) (ref v b) = flow_apart f (fun u ps r e) (ref v b)

  flows_turn : (f : Bool) (ps qs : Skels) → flows Flow f ps qs ≡ flows Flow (not f) qs ps
  flows_turn f no_skels no_skels = refl
  flows_turn f no_skels (more_skels q qs) = refl
  flows_turn f (more_skels p ps) no_skels = refl
  flows_turn f (more_skels p ps) (more_skels q qs) =
      join_same (flow Flow f p q) (flows Flow f ps qs) (flow Flow (not f) q p) (flows Flow (not f) qs ps)
      (flow_turns f p q) (flows_turn f ps qs)

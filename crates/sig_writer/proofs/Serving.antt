-- The words of a library serve every client as the library does.
use Rattle.std.proofs.Common.{◌≡◌, ℕ, ◌<◌, nat_eq, true, ◌||◌, ◌↔◌, List, refl, sym, ◌∙◌, ap, subst, ◌⊎◌, inl, inr}
use Rattle.std.specs.Int.{bit_at}
use Rattle.std.specs.List.{flat_map, Contains}
use Rattle.std.proofs.lemmas.Bool.{cases_eq, eq-eqb, eqb-true, or_cases, or_left, or_right}
use Rattle.qual_base.specs.declared.places.Owner.TheVariants.{Function}
use Rattle.lattice_core.specs.Order.{Order, size, leq, IsLattice}
use Rattle.flow_graph.specs.declared.constraint.Link.{Link}
use Rattle.flow_graph.specs.declared.constraint.Link.TheVariants.{Le, Const, Bound, Enter, Leave}
use Rattle.flow_graph.specs.System.{System, owner_of, Stands, IsWellOwned}
use Rattle.flow_graph.specs.Unfolding.{IsAcceptedIn, NamesElementsIn}
use Rattle.flow_graph.specs.Paths.{Matches, stay, longer, Match, Returning}
use Rattle.flow_laws.proofs.Force.{accepted_keeps_paths}
use Rattle.flow_laws.proofs.Owners.{start_owner, end_owner, entering, function_is}
use Rattle.flow_laws.proofs.Reaching.{joined}
use Rattle.flow_laws.specs.Least.{IsSafe}
use Rattle.match_summary.specs.declared.reason.Summary.{Summary}
use Rattle.match_summary.specs.Summary.{IsInnerEnd, SummarisesFrom}
use Rattle.bounds_below.specs.Below.{set_at, AreBelow}
use Rattle.split_laws.specs.Same.{SamePaths}
use Rattle.split_laws.specs.Splits.{Split, SplitTests, AreSplitExact, AreWords, SplitPremises, ReachesBound, alone, of_part, whole, ServedIsWhole, WholeIsServed}
use Rattle.sig_writer.specs.Signatures.{External, Found, is_marked, nodes_of, numbers_of}
use Rattle.sig_writer.specs.Found.{IsFoundAt}
use Rattle.sig_writer.specs.Parts.{are_among, AreOwnedApart, IsSplitOf, Serves}
use Rattle.sig_writer.proofs.Elements.{in_flat, of_flat}
use Rattle.sig_writer.proofs.Pairs.{has_pair, is_pair, pair_of}
use Rattle.sig_writer.proofs.Indexing.{has_numbers, is_marked_by, leads_words, own_number, words_lead}
use Rattle.sig_writer.proofs.Words.{has_bound, has_const, has_flow, stands_word, word_of, ByBound, ByConst, ByFlow, IsFlowWord, IsWord, IsWordIn}
use Rattle.sig_writer.proofs.Same.{are_same, end_owner_to, end_to, greatest_of_same, least_of_same, match_to, reaches_to, turned}

const_parts : {l e v k d w : ℕ} → Const l e v ≡ Const k d w → (e ≡ d) × (v ≡ w)
const_parts e = (cc, cc)

bound_parts : {v l b w k d : ℕ} → Bound v l b ≡ Bound w k d → (v ≡ w) × (b ≡ d)
bound_parts e = (cc, cc)

le_parts : {u v x y : ℕ} → Le u v ≡ Le x y → (u ≡ x) × (v ≡ y)
le_parts e = (cc, cc)

-- ---- matched paths one behind the other

module _ (sys : System) (lattice : ℕ) where
  -- a path inside a function is empty, or one of parts
  split_path : (f u v : ℕ) → Matches sys lattice f u v → (u ≡ v) ⊎ Match sys lattice u v
  split_path f u v (stay _ _ is) = inl refl
  split_path f u v (longer _ _ x _ m part) = inr (f, x, m, part)

  of_match : (u v : ℕ) → Match sys lattice u v → (f : ℕ) × Matches sys lattice f u v
  of_match u v (f, x, m, part) = (f, longer f u x v m part)

  match_on : (w v u : ℕ) → Match sys lattice w v → Match sys lattice v u → Match sys lattice w u
  match_on w v u one (g, y, n, part) =
      let path = of_match w v one in
      let same : path.0 ≡ g = function_is (sym (end_owner sys lattice path.0 w v path.1)
      ∙ start_owner sys lattice g v y n) in
      (g, y, joined sys lattice g w v y (subst (λ f. Matches sys lattice f w v) same path.1) n, part)

-- ---- what the code has found tells what is asked of a library within a split

pub bit_of : (set e : ℕ) → nat_eq (bit_at set e) 1 ≡ true → bit_at set e ≡ 1
bit_of set e is = eqb-true (bit_at set e) 1 is

pub of_bit : (set e : ℕ) → bit_at set e ≡ 1 → nat_eq (bit_at set e) 1 ≡ true
of_bit set e is = eq-eqb (bit_at set e) 1 is

-- What is known of a library: it is well owned and accepted, this is found of it, by summaries from its nodes and by
-- sets of what comes to each variable and of the bounds that each leads to; no function has variables of two of these.
pub record IsKnownLibrary (sys : System) (order : Order) (it : Found) (functions : List External) (rows : List Summary)
    (firsts : ℕ → ℕ) (below : List ℕ) : Type 0 where
  pub lat : IsLattice order
  pub owned : IsWellOwned sys
  pub apart : AreOwnedApart sys functions
  pub accepted : IsAcceptedIn sys 0 order
  pub found : IsFoundAt sys 0 order (flat_map nodes_of functions) it
  pub summaries : SummarisesFrom sys 0 (flat_map nodes_of functions) rows
  pub comes : (v e : ℕ) → (bit_at (firsts v) e ≡ 1) ↔ Returning sys 0 e v
  pub bounds : AreBelow sys 0 below

module _ (sys : System) (order : Order) (it : Found) (functions : List External) (rows : List Summary) (firsts : ℕ → ℕ)
    (below : List ℕ)
    (known : IsKnownLibrary sys order it functions rows firsts below) (paths : SamePaths) (s : Split)
    (fits : IsSplitOf sys it functions s) where
  abbrev lib : System
  lib = alone s

  abbrev all : List ℕ
  all = flat_map nodes_of functions

  to_match : (u v : ℕ) → Match sys 0 u v → Match lib 0 u v
  to_match u v m = match_to sys lib 0 (are_same sys it functions s fits)
      (paths sys lib 0 (are_same sys it functions s fits)) u v m

  of_lib_match : (u v : ℕ) → Match lib 0 u v → Match sys 0 u v
  of_lib_match u v m =
      let back = turned sys lib (are_same sys it functions s fits) in
      match_to lib sys 0 back (paths lib sys 0 back) u v m

  to_reaches : (v n b : ℕ) → ReachesBound sys 0 v n b → ReachesBound lib 0 v n b
  to_reaches v n b r = reaches_to sys lib 0 (are_same sys it functions s fits)
      (paths sys lib 0 (are_same sys it functions s fits)) v n b r

  of_lib_reaches : (v n b : ℕ) → ReachesBound lib 0 v n b → ReachesBound sys 0 v n b
  of_lib_reaches v n b r =
      let back = turned sys lib (are_same sys it functions s fits) in
      reaches_to lib sys 0 back (paths lib sys 0 back) v n b r

  to_returning : (e v : ℕ) → Returning sys 0 e v → Returning lib 0 e v
  to_returning e v p = ((paths sys lib 0 (are_same sys it functions s fits)).returning e v).0 p

  of_lib_returning : (e v : ℕ) → Returning lib 0 e v → Returning sys 0 e v
  of_lib_returning e v p = ((paths sys lib 0 (are_same sys it functions s fits)).returning e v).1 p

  to_end : (a : ℕ) → IsInnerEnd sys 0 a → IsInnerEnd lib 0 a
  to_end a end = end_to sys lib 0 (are_same sys it functions s fits)
      (paths sys lib 0 (are_same sys it functions s fits)) a end

  of_lib_end : (a : ℕ) → IsInnerEnd lib 0 a → IsInnerEnd sys 0 a
  of_lib_end a end =
      let back = turned sys lib (are_same sys it functions s fits) in
      end_to lib sys 0 back (paths lib sys 0 back) a end

  -- ---- tests

  abbrev tests : SplitTests
  tests = record {
    returned = λ e v. nat_eq (bit_at (firsts v) e) 1;
    joined = λ u v. nat_eq u v || has_pair rows u v;
    bounded = λ v b. nat_eq (bit_at (set_at below v) b) 1;
  }

  -- an inner end and a node belong to functions
  owner_there : (a : ℕ) → IsInnerEnd lib 0 a ⊎ (s.node a ≡ true) → (f : ℕ) × (owner_of lib a ≡ Function f)
  owner_there a (inr node) = let mine = fits.split.node a node in (mine.0, mine.1)
  owner_there a (inl end) =
      let own : IsInnerEnd sys 0 a = of_lib_end a end in
      let call = entering sys 0 known.owned own.0 own.1 own.2 a own.3 in
      let same = end_owner_to sys lib 0 (are_same sys it functions s fits)
      (paths sys lib 0 (are_same sys it functions s fits)) a own in
      (call.it.target, sym same ∙ call.inner_is)

  is_start : (a : ℕ) → IsInnerEnd lib 0 a ⊎ (s.node a ≡ true) → IsInnerEnd sys 0 a ⊎ Contains all a
  is_start a (inl end) = inl (of_lib_end a end)
  is_start a (inr node) = inr ((fits.node a).0 node)

  joined_of : (a v : ℕ) → IsInnerEnd lib 0 a ⊎ (s.node a ≡ true) → tests.joined a v ≡ true → (g : ℕ) ×
      Matches lib 0 g a v
  joined_of a v start is = elim (or_cases (nat_eq a v) (has_pair rows a v) is) [
    | inl same ↦
        let own = owner_there a start in
        (own.0, subst (λ w. Matches lib 0 own.0 a w) (eqb-true a v same) (stay own.0 a own.1))
    | inr pair ↦ of_match lib 0 a v (to_match a v (known.summaries.summaries.sound a v (pair_of rows a v pair)))
  ]

  is_joined : (a v : ℕ) → IsInnerEnd lib 0 a ⊎ (s.node a ≡ true) → (g : ℕ) × Matches lib 0 g a v →
      tests.joined a v ≡ true
  is_joined a v start path = elim (split_path lib 0 path.0 a v path.1) [
    | inl same ↦ or_left (nat_eq a v) (has_pair rows a v) (eq-eqb a v same)
    | inr match ↦
        or_right (nat_eq a v) (has_pair rows a v)
        (is_pair rows a v (known.summaries.whole a v (is_start a start) (of_lib_match a v match)))
  ]

  exact : AreSplitExact s 0 tests
  exact = record {
    returned = λ e v. (
      λ is. to_returning e v ((known.comes v e).0 (bit_of (firsts v) e is)),
      λ p. of_bit (firsts v) e ((known.comes v e).1 (of_lib_returning e v p)),
    );
    joined = λ a v start. (joined_of a v start, is_joined a v start);
    bounded = λ v b node. (
      λ is. let r = (known.bounds v b).0 (bit_of (set_at below v) b is) in (r.0, to_reaches v r.0 b r.1),
      λ r. of_bit (set_at below v) b ((known.bounds v b).1 (r.0, of_lib_reaches v r.0 b r.1)),
    );
  }

  -- ---- words

  is_node : (f : External) (v : ℕ) → Contains functions f → Contains (nodes_of f) v → s.node v ≡ true
  is_node f v in_functions in_nodes = (fits.node v).1 (in_flat nodes_of functions f v in_functions in_nodes)

  said : (n : ℕ) (link : Link) → Stands (of_part s s.words) 0 n link → IsWordIn it functions link
  said n link st = word_of it functions s fits.words n link st

  by_const : (e v : ℕ) (nodes : List ℕ) (w : ℕ) (link : Link) → IsWord it nodes w link → link ≡ Const 0 e v → (w ≡ v) ×
      (e ≡ it.join w)
  by_const e v nodes w _ ByConst is = let same = const_parts is in (same.1, sym same.0)
  by_const e v nodes w _ ByBound is = absurd cc
  by_const e v nodes w _ (ByFlow link flow) is = let wrong : Le w flow.end ≡ Const 0 e v = sym flow.is ∙ is in absurd cc

  by_bound : (v b : ℕ) (nodes : List ℕ) (w : ℕ) (link : Link) → IsWord it nodes w link → link ≡ Bound v 0 b → (w ≡ v) ×
      (b ≡ it.meet w)
  by_bound v b nodes w _ ByConst is = absurd cc
  by_bound v b nodes w _ ByBound is = let same = bound_parts is in (same.0, sym same.1)
  by_bound v b nodes w _ (ByFlow link flow) is = let wrong : Le w flow.end ≡ Bound v 0 b = sym flow.is ∙ is in absurd cc

  by_flow : (v u : ℕ) (nodes : List ℕ) (w : ℕ) (link : Link) → IsWord it nodes w link → link ≡ Le v u →
      (w ≡ v) × ((flow : IsFlowWord it nodes w link) × (flow.end ≡ u))
  by_flow v u nodes w _ ByConst is = absurd cc
  by_flow v u nodes w _ ByBound is = absurd cc
  by_flow v u nodes w _ (ByFlow link flow) is = let same = le_parts (sym flow.is ∙ is) in (same.0, (flow, same.1))

  no_enter : (t u v : ℕ) (nodes : List ℕ) (w : ℕ) (link : Link) → IsWord it nodes w link → link ≡ Enter t u v → ⊥
  no_enter t u v nodes w _ ByConst is = cc
  no_enter t u v nodes w _ ByBound is = cc
  no_enter t u v nodes w _ (ByFlow link flow) is = let wrong : Le w flow.end ≡ Enter t u v = sym flow.is ∙ is in cc

  no_leave : (t u v : ℕ) (nodes : List ℕ) (w : ℕ) (link : Link) → IsWord it nodes w link → link ≡ Leave t u v → ⊥
  no_leave t u v nodes w _ ByConst is = cc
  no_leave t u v nodes w _ ByBound is = cc
  no_leave t u v nodes w _ (ByFlow link flow) is = let wrong : Le w flow.end ≡ Leave t u v = sym flow.is ∙ is in cc

  const_said : (n e v : ℕ) → Stands (of_part s s.words) 0 n (Const 0 e v) → (s.node v ≡ true) × (e ≡ it.join v)
  const_said n e v st =
      let at = said n (Const 0 e v) st in
      let word = by_const e v (nodes_of at.function) at.var (Const 0 e v) at.word refl in (
        subst (λ w. s.node w ≡ true) word.0 (is_node at.function at.var at.is_function at.is_node),
        word.1 ∙ ap it.join word.0,
      )

  bound_said : (n v b : ℕ) → Stands (of_part s s.words) 0 n (Bound v 0 b) → (s.node v ≡ true) × (b ≡ it.meet v)
  bound_said n v b st =
      let at = said n (Bound v 0 b) st in
      let word = by_bound v b (nodes_of at.function) at.var (Bound v 0 b) at.word refl in (
        subst (λ w. s.node w ≡ true) word.0 (is_node at.function at.var at.is_function at.is_node),
        word.1 ∙ ap it.meet word.0,
      )

  -- what has the numbers of a node is another one to which a matched path leads
  flow_leads : (f : External) (w : ℕ) (link : Link) → Contains functions f → Contains (nodes_of f) w →
      (flow : IsFlowWord it (nodes_of f) w link) →
      Match lib 0 w flow.end
  flow_leads f w link in_functions in_nodes flow =
      let marks = has_numbers it (nodes_of f) w flow.number flow.has in
      let leads = words_lead it (nodes_of f) w flow.end in_nodes marks flow.among in
      to_match w flow.end ((known.found.joins w flow.end (in_flat nodes_of functions f w in_functions in_nodes)).0
      (elim (or_cases (nat_eq w flow.end) (it.joins w flow.end) leads) [
        | inl same ↦ absurd (flow.other (sym (eqb-true w flow.end same)))
        | inr joins ↦ joins
      ]))

  le_said : (n v u : ℕ) → Stands (of_part s s.words) 0 n (Le v u) → (s.node v ≡ true) × (s.node u ≡ true) ×
      Match lib 0 v u
  le_said n v u st =
      let at = said n (Le v u) st in
      let word = by_flow v u (nodes_of at.function) at.var (Le v u) at.word refl in
      let flow = word.1.0 in
      let path = flow_leads at.function at.var (Le v u) at.is_function at.is_node flow in (
        subst (λ w. s.node w ≡ true) word.0 (is_node at.function at.var at.is_function at.is_node),
        subst (λ w. s.node w ≡ true) word.1.1 (is_node at.function flow.end at.is_function flow.is_node),
        subst (λ w. Match lib 0 w u) word.0 (subst (λ w. Match lib 0 at.var w) word.1.1 path),
      )

  home : (v : ℕ) → s.node v ≡ true → (f : External) × Contains functions f × Contains (nodes_of f) v
  home v node = of_flat nodes_of functions v ((fits.node v).0 node)

  const_has : (v : ℕ) → s.node v ≡ true →
      ((n : ℕ) × Stands (of_part s s.words) 0 n (Const 0 (it.join v) v)) ⊎
      ((d : ℕ) → d < size order → leq order (it.join v) d ≡ true)
  const_has v node =
      let at = home v node in
      elim (has_const it (nodes_of at.0) v) [
        | inl least ↦ inr (λ d low. subst (λ e. leq order e d ≡ true) (sym least) (known.found.least.1 d low))
        | inr has ↦ inl (stands_word it functions s fits.words at.0 v (Const 0 (it.join v) v) at.1 at.2 has refl)
      ]

  bound_has : (v : ℕ) → s.node v ≡ true →
      ((n : ℕ) × Stands (of_part s s.words) 0 n (Bound v 0 (it.meet v))) ⊎
      ((d : ℕ) → d < size order → leq order d (it.meet v) ≡ true)
  bound_has v node =
      let at = home v node in
      elim (has_bound it (nodes_of at.0) v) [
        | inl greatest ↦ inr (λ d low. subst (λ e. leq order d e ≡ true) (sym greatest) (known.found.greatest.1 d low))
        | inr has ↦ inl (stands_word it functions s fits.words at.0 v (Bound v 0 (it.meet v)) at.1 at.2 has refl)
      ]

  -- a matched path leads between nodes of one function, and thus of one line
  one_line : (f g : External) (v u : ℕ) → Contains functions f → Contains functions g → Contains (nodes_of f) v →
      Contains (nodes_of g) u →
      Match sys 0 v u → Contains (nodes_of f) u
  one_line f g v u in_f in_g in_v in_u match =
      let path = of_match sys 0 v u match in
      let same = known.apart f g v u path.0 in_f in_g in_v in_u (start_owner sys 0 path.0 v u path.1)
      (end_owner sys 0 path.0 v u path.1) in
      subst (λ vars. Contains vars u) (sym same) in_u

  line_has : (f : External) (v u : ℕ) → Contains functions f → Contains (nodes_of f) v → Contains (nodes_of f) u →
      (v ≡ u → ⊥) → Match sys 0 v u →
      (n : ℕ) × Stands (of_part s s.words) 0 n (Le v u)
  line_has f v u in_f in_v in_u other match =
      let nodes = nodes_of f in
      let joins : (w x : ℕ) → Contains nodes w → (it.joins w x ≡ true) ↔ Match sys 0 w x =
      λ w x in_w. known.found.joins w x (in_flat nodes_of functions f w in_f in_w) in
      let here : it.joins v u ≡ true = (joins v u in_v).1 match in
      let marks : is_marked it nodes v ≡ true = is_marked_by it nodes v u in_u (λ same. other (sym same))
      (or_right (it.joins u v) (it.joins v u) here) in
      let own = own_number it nodes v in_v marks in
      let through : (w : ℕ) → Contains nodes w → it.joins w v ≡ true → it.joins w u ≡ true =
      λ w in_w leads. (joins w u in_w).1 (match_on sys 0 w v u ((joins w v in_w).0 leads) match) in
      let among : are_among (numbers_of it nodes v) (numbers_of it nodes u) ≡ true =
      leads_words it nodes v u through in_v in_u other here in
      stands_word it functions s fits.words f v (Le v u) in_f in_v
      (has_flow it nodes v u own.0 own.1 in_u (λ same. other (sym same)) among) refl

  le_has : (v u : ℕ) → s.node v ≡ true → s.node u ≡ true → Match lib 0 v u → (v ≡ u) ⊎
      ((n : ℕ) × Stands (of_part s s.words) 0 n (Le v u))
  le_has v u node_v node_u match =
      let at = home v node_v in
      let to = home u node_u in
      let own = of_lib_match v u match in
      elim (cases_eq v u) [
        | inl same ↦ inl same
        | inr other ↦ inr (line_has at.0 v u at.1 at.2 (one_line at.0 to.0 v u at.1 to.1 at.2 to.2 own) other own)
      ]

  words : AreWords s 0 order it.join it.meet
  words = record {
    joins = λ v node. least_of_same order (λ e. Returning sys 0 e v) (λ e. Returning lib 0 e v) (it.join v)
        (λ e p. to_returning e v p) (λ e p. of_lib_returning e v p)
        (known.found.join v ((fits.node v).0 node));
    meets = λ v node. greatest_of_same order (λ b. (n : ℕ) × ReachesBound sys 0 v n b)
        (λ b. (n : ℕ) × ReachesBound lib 0 v n b) (it.meet v)
        (λ b r. (r.0, to_reaches v r.0 b r.1)) (λ b r. (r.0, of_lib_reaches v r.0 b r.1))
        (known.found.meet v ((fits.node v).0 node));
    const = const_said;
    bound = bound_said;
    le = le_said;
    no_enter = λ n t u v st. let at = said n (Enter t u v) st in
        no_enter t u v (nodes_of at.function) at.var (Enter t u v) at.word refl;
    no_leave = λ n t u v st. let at = said n (Leave t u v) st in
        no_leave t u v (nodes_of at.function) at.var (Leave t u v) at.word refl;
    has_const = const_has;
    has_bound = bound_has;
    has_le = le_has;
  }

  safe : IsSafe lib 0 order
  safe = ((paths sys lib 0 (are_same sys it functions s fits)).safe order).0 (λ n v b e st lead.
      accepted_keeps_paths sys 0 order known.owned known.lat.ordered known.accepted e v n b lead st)

  pub premises : NamesElementsIn (whole s) 0 order → SplitPremises s 0 order it.join it.meet tests
  premises named = record {
    split = fits.split;
    lat = known.lat;
    names = named;
    words = words;
    exact = exact;
    safe = safe;
  }

-- the words of a library that is known serve every client as the library does
pub serves : (sys : System) (order : Order) (it : Found) (functions : List External) (rows : List Summary)
    (firsts : ℕ → ℕ) (below : List ℕ) →
    IsKnownLibrary sys order it functions rows firsts below → SamePaths → ServedIsWhole → WholeIsServed →
    Serves sys order it functions
serves sys order it functions rows firsts below known paths one other s fits named =
    let given = premises sys order it functions rows firsts below known paths s fits named in
    let t = tests sys order it functions rows firsts below known paths s fits in
    (one s 0 order it.join it.meet t given, other s 0 order it.join it.meet t given)

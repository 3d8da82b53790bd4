-- Where the variable of a constant leads, its element does.
use Rattle.std.proofs.Common.{◌≡◌, ℕ, inl, inr, refl, sym, subst}
use Rattle.qual_base.specs.declared.places.Owner.{Owner}
use Rattle.qual_base.specs.declared.places.Owner.TheVariants.{Nobody, Function}
use Rattle.flow_graph.specs.declared.constraint.Link.TheVariants.{Le, Const, Enter}
use Rattle.flow_graph.specs.declared.phase.Phase.{Phase}
use Rattle.flow_graph.specs.declared.phase.Phase.TheVariants.{First, Second}
use Rattle.flow_graph.specs.System.{System, owner_of, Stands}
use Rattle.flow_graph.specs.Paths.{Lead, Returning, Calling, start, flows, returns, grouped, anew, calls, calls_on, flows_on, grouped_on}
use Rattle.flow_graph.specs.Parts.{settled}
use Rattle.flow_graph.specs.Leading.{Goes, Begins, Flows, Returns, Enters, Rounds, GoesTo}

module _ (sys : System) (lattice : ℕ) where
  -- what leads to a variable in a phase
  abbrev Led : ℕ → Phase → ℕ → Type 0
  Led e First v = Returning sys lattice e v
  Led e Second v = Calling sys lattice e v

  -- the order of calls starts anew at a variable of nobody
  settles : (e v : ℕ) (owner : Owner) (p q : Phase) → owner_of sys v ≡ owner → q ≡ settled owner p → Led e p v
      → Led e q v
  settles e v Nobody First q is same led = let By : Phase → Type 0 = λ r. Led e r v in subst By (sym same) led
  settles e v Nobody Second q is same led =
      let By : Phase → Type 0 = λ r. Led e r v in
      subst By (sym same) (anew v led is)
  settles e v (Function f) p q is same led = let By : Phase → Type 0 = λ r. Led e r v in subst By (sym same) led

  flows_in : (e u v n : ℕ) (p : Phase) → Led e p u → Stands sys lattice n (Le u v) → Led e p v
  flows_in e u v n First led stands = flows u v n led stands
  flows_in e u v n Second led stands = flows_on u v n led stands

  calls_in : (e u v s n : ℕ) (p : Phase) → Led e p u → Stands sys lattice n (Enter s u v) → Calling sys lattice e v
  calls_in e u v s n First led stands = calls u v s n led stands
  calls_in e u v s n Second led stands = calls_on u v s n led stands

  -- the element of a constant leads where its variable does
  module _ (n e u : ℕ) (constant : Stands sys lattice n (Const lattice e u)) where
    led_on : (v : ℕ) (p : Phase) → Goes sys lattice u p v → Led e p v
    led_on v p Begins = start u n constant
    led_on v q (Flows p x y m _ same goes stands) =
        settles e y (owner_of sys y) p q refl same (flows_in e x y m p (led_on x p goes) stands)
    led_on v p (Returns x y s m goes stands) = returns x y s m (led_on x First goes) stands
    led_on v q (Enters p x y s m _ same goes stands) =
        settles e y (owner_of sys y) Second q refl same (calls_in e x y s m p (led_on x p goes) stands)
    led_on v q (Rounds First x a b y s g m k _ same goes enters matches leaves) =
        settles e y (owner_of sys y) First q refl same
        (grouped x a b y s g m k (led_on x First goes) enters matches leaves)
    led_on v q (Rounds Second x a b y s g m k _ same goes enters matches leaves) =
        settles e y (owner_of sys y) Second q refl same
        (grouped_on x a b y s g m k (led_on x Second goes) enters matches leaves)

    either_phase : (v : ℕ) (p : Phase) → Led e p v → Lead sys lattice e v
    either_phase v First led = inl led
    either_phase v Second led = inr led

    pub constants_lead : (v : ℕ) → GoesTo sys lattice u v → Lead sys lattice e v
    constants_lead v goes = either_phase v goes.0 (led_on v goes.0 goes.1)

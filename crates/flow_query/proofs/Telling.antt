-- The text of sections, of variables and of the whole.
use Rattle.std.proofs.Common.{◌≡◌, ℕ, suc, ◌+◌, ◌<◌, Some, None, List, [], ◌∷◌, ◌++◌, length, take, get_or, codes, refl, sym, ◌∙◌}
use Rattle.std.proofs.Common.{ap, subst, arith}
use Rattle.std.proofs.Math.Seq.{take-suc}
use Rattle.flow_graph.specs.System.{System}
use Rattle.annotate.specs.declared.scene.Scene.{Scene as Lent}
use Rattle.annotate.specs.Scenes.{Shows, WritesSome}
use Rattle.annotate.specs.Texts.{Scene, line}
use Rattle.flow_query.specs.Answers.{EachBelow, NextBelow, VarsText, VarText, NextVar, IsWho, Named, NotNamed, asked_in}

-- one more of those below a number
pub next_below : (Is : ℕ → List ℕ → Type 0) (n m : ℕ) (text here : List ℕ) → m ≡ n → EachBelow Is n text → Is m here →
    EachBelow Is (n + 1) (text ++ here)
next_below Is n m text here same before next =
    let Of : ℕ → Type 0 = λ k. Is k here in NextBelow n text here before (subst Of same next)

-- one more variable
pub next_var : (scene : Scene) (sys : System) (vars : List ℕ) (n var : ℕ) (text here : List ℕ) → n < length vars
    → var ≡ get_or vars n var →
    VarsText scene sys (take n vars) text → VarText scene sys var here
    → VarsText scene sys (take (n + 1) vars) (text ++ here)
next_var scene sys vars n var text here within is before next =
    let Of : List ℕ → Type 0 = λ taken. VarsText scene sys taken (text ++ here) in
    let step : suc n ≡ n + 1 = omega arith in
    subst Of (ap (λ (y : ℕ). take n vars ++ y ∷ []) is ∙ sym (take-suc vars n var within) ∙ ap (λ k. take k vars) step)
    (NextVar (take n vars) var text here before next)

-- the whole
pub named : (scene : Scene) (sys : System) (name vars text : List ℕ) → vars ≡ asked_in scene name → (vars ≡ [] → ⊥) →
    VarsText scene sys vars text → IsWho scene sys name (Some (line (codes "who") ++ text))
named scene sys name [] text is some told = absurd (some refl)
named scene sys name (var ∷ vars) text is some told =
    let Of : List ℕ → Type 0 = λ asked. VarsText scene sys asked text in Named var vars text (sym is) (subst Of is told)

-- the variables of a name are none, or some
pub no_name : (scene : Scene) (sys : System) (name vars : List ℕ) → vars ≡ asked_in scene name → length vars ≡ 0
    → IsWho scene sys name None
no_name scene sys name [] is none = NotNamed (sym is)
no_name scene sys name (var ∷ vars) is none = absurd (omega (arith, none))

-- the same, as the text is written
pub named_as : (scene : Scene) (sys : System) (name vars lent begun after told : List ℕ) → vars ≡ asked_in scene name
    → (vars ≡ [] → ⊥) →
    lent ≡ vars → VarsText scene sys lent told → begun ≡ line (codes "who") → after ≡ begun ++ told
    → IsWho scene sys name (Some after)
named_as scene sys name vars lent begun after told is some same each begins ends =
    let Of : List ℕ → Type 0 = λ vs. VarsText scene sys vs told in
    let Is : List ℕ → Type 0 = λ t. IsWho scene sys name (Some t) in
    subst Is (sym (ends ∙ ap (λ (t : List ℕ). t ++ told) begins))
    (named scene sys name vars told is some (subst Of same each))

-- what is written of a kind is of another kind
pub as_some : {lent : Lent} {a b : List ℕ} {Is : Scene → List ℕ → Type 0} (Has : Scene → List ℕ → Type 0)
    → WritesSome lent a b Is →
    ((s : Scene) → Shows lent s → (text : List ℕ) → Is s text → Has s text) → WritesSome lent a b Has
as_some Has one has = record {
  part = λ s shows.
      let own = one.part s shows in
      record { text = own.text; added = own.added; is = has s shows own.text own.is };
}

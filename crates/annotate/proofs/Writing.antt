-- Texts that are written one behind the other.
use Rattle.std.proofs.Common.{◌≡◌, ℕ, List, [], ◌++◌, sym, ◌∙◌, ap, append_assoc, append-nil, Ok, Err, OnOk}
use Rattle.std.specs.declared.result.Result.{Result}
use Rattle.annotate.specs.declared.scene.Scene.{Scene as Lent}
use Rattle.annotate.specs.Texts.{Scene}
use Rattle.annotate.specs.Scenes.{Shows, Writes, WritesSome}

-- what holds at a success gives what follows from it there
pub on_ok : {T E P Q : Type 0} (r : Result T E) → OnOk r P → (P → Q) → OnOk r Q
on_ok (Ok x) p f = f p
on_ok (Err e) p f = tt

-- a text that no scene changes
pub fixed : (lent : Lent) (old new text : List ℕ) → new ≡ old ++ text → Writes lent old new (λ s. text)
fixed lent old new text is = record { is = λ s shows. is }

-- nothing
pub nothing : (lent : Lent) (old : List ℕ) (text : Scene → List ℕ) → ((s : Scene) → Shows lent s → [] ≡ text s)
    → Writes lent old old text
nothing lent old text none =
    record { is = λ s shows. sym (append-nil old) ∙ ap (λ (t : List ℕ). old ++ t) (none s shows) }

-- a text and then another
pub then_both : {lent : Lent} {a b c : List ℕ} {f g : Scene → List ℕ} → Writes lent a b f → Writes lent b c g
    → Writes lent a c (λ s. f s ++ g s)
then_both {a = a} {f = f} {g = g} one two = record {
  is = λ s shows. two.is s shows ∙ ap (λ (t : List ℕ). t ++ g s) (one.is s shows) ∙ append_assoc a (f s) (g s);
}

-- the same text in other words
pub same_text : {lent : Lent} {a b : List ℕ} {f : Scene → List ℕ} (g : Scene → List ℕ) → Writes lent a b f
    → ((s : Scene) → Shows lent s → f s ≡ g s) → Writes lent a b g
same_text {a = a} g one same = record { is = λ s shows. one.is s shows ∙ ap (λ (t : List ℕ). a ++ t) (same s shows) }

-- nothing, where that is of the kind
pub none_of : (lent : Lent) (old : List ℕ) (Is : Scene → List ℕ → Type 0) → ((s : Scene) → Shows lent s → Is s [])
    → WritesSome lent old old Is
none_of lent old Is none =
    record { part = λ s shows. record { text = []; added = sym (append-nil old); is = none s shows } }

-- a text that is of the kind
pub some_of : {lent : Lent} {a b : List ℕ} {f : Scene → List ℕ} (Is : Scene → List ℕ → Type 0) → Writes lent a b f
    → ((s : Scene) → Shows lent s → Is s (f s)) → WritesSome lent a b Is
some_of {f = f} Is one is = record { part = λ s shows. record { text = f s; added = one.is s shows; is = is s shows } }

-- a text of a kind and then one of another
pub then_some : {lent : Lent} {a b c : List ℕ} {Is Has : Scene → List ℕ → Type 0} (Both : Scene → List ℕ → Type 0)
    → WritesSome lent a b Is → WritesSome lent b c Has →
    ((s : Scene) → Shows lent s → (t u : List ℕ) → Is s t → Has s u → Both s (t ++ u)) → WritesSome lent a c Both
then_some {a = a} Both one two both = record {
  part = λ s shows.
      let first = one.part s shows in
      let second = two.part s shows in
      record {
        text = first.text ++ second.text;
        added = second.added ∙ ap (λ (t : List ℕ). t ++ second.text) first.added
            ∙ append_assoc a first.text second.text;
        is = both s shows first.text second.text first.is second.is;
      };
}

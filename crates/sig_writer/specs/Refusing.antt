-- Why a function has no signature, by what its nodes say.
use Rattle.std.specs.Prelude.{ℕ, Bool, ◌∷◌, Option, None, Some, if◌then◌else◌}
use Rattle.std.specs.List.{list_any}
use Rattle.lattice_core.specs.View.{LatticeView}
use Rattle.qual_types.specs.Skel.{Skel, root}
use Rattle.name_rules.specs.Spellings.{Place}
use Rattle.sig_writer.specs.declared.refusals.Refusal as lent
use Rattle.sig_writer.specs.declared.refusals.Refusal.TheVariants as kinds
use Rattle.sig_writer.specs.Saying.{elements_of, said_at, some_says, AreOf, Saying}
use Rattle.sig_writer.specs.Signatures.{Refusal, NoPlace, NoWord, lacks_words, unplaced}

-- a refusal at the place of a function
abbrev pub refusal_at : lent.Refusal → Place → Refusal
refusal_at kinds.NoPlace p = NoPlace p
refusal_at kinds.NoWord p = NoWord p

-- whether something is said at a node that has no place for a word
abbrev pub some_unplaced : Saying → Skel → Bool
some_unplaced said s = some_says said (root s ∷ unplaced s)

-- whether some node wants a word that the lattice does not have
abbrev pub some_unsigned : LatticeView → Saying → Bool
some_unsigned lattice said = list_any (λ v. lacks_words lattice (said_at said v)) said.vars

-- why a function with this skeleton has no signature, if so
abbrev pub refusal_in : LatticeView → Saying → Skel → Option lent.Refusal
refusal_in lattice said s =
    if some_unplaced said s then Some kinds.NoPlace else if some_unsigned lattice said then Some kinds.NoWord else None

-- what is said anywhere are elements of a lattice
abbrev pub AreAllWithin : LatticeView → Saying → Type 0
AreAllWithin lattice said = (v : ℕ) → AreOf lattice.order (elements_of (said_at said v).low (said_at said v).high)

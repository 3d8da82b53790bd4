-- clap's matches and faults at the words, and their meaning.
use Rattle.std.proofs.Common.{refl, sym, ap₂, subst, ◌≡◌, ◌≢◌, ◌∙◌, Bool, false, List, [], ◌∷◌, Option, Some, None, inl, inr}
use Rattle.std.specs.Prelude.{codes, is_some}
use Rattle.clap.specs.Values.{kind_of}
use Rattle.clap.specs.Matches.{first_value}
use Rattle.clap.specs.Walk.{Row, rows_of, nothing_held, walk_from}
use Rattle.clap.specs.Simple.{built, entered, matches_of}
use Rattle.clap.specs.Faults.{entered_fault, fault_of, level_fault}
use Rattle.clap.specs.Kinds.{HasKind, Kinds}
use Rattle.clap.specs.declared.error.Error.{Error}
use Rattle.clap.specs.declared.error.kind.ErrorKind.TheVariants as kind
use Rattle.clap.specs.declared.parser.matches.Found.{Found}
use Rattle.clap.proofs.WalkLemmas.{first_value-rows, one_text-rows, raw_values-rows}
use Rattle.cqual_words.specs.Words.{Flag, Text, asked_behind, flag_name}
use Rattle.cqual_words.specs.Tool.{HasFlags, asked_by, raw_of, tool}
use Rattle.cqual_words.proofs.Rules.{shape}
use Rattle.cqual_words.proofs.States.{Free}
use Rattle.cqual_words.proofs.Steps.{Judged}
use Rattle.cqual_words.proofs.Walks.{walks}

-- there is no subcommand
no_entered : (stop : Option (Text × List Text)) → is_some (entered (built tool) stop) ≡ false
no_entered None = refl
no_entered (Some p) = refl

no_entered_fault : (stop : Option (Text × List Text)) → entered_fault (built tool) stop ≡ []
no_entered_fault None = refl
no_entered_fault (Some p) = refl

-- with no fault the matches ask what the words mean, and with a fault they mean nothing
pub agrees : (words : List Text) → Judged (fault_of tool words) (matches_of tool words) (asked_behind words)
agrees words =
    let stop = (Rattle.clap.specs.Walk.walk shape.rules [] nothing_held words).stopped in
    let same : fault_of tool words ≡ level_fault shape [] nothing_held words false [] =
    ap₂ (λ b ks. level_fault shape [] nothing_held words b ks) (no_entered stop) (no_entered_fault stop) in
    subst (λ ks. Judged ks (matches_of tool words) (asked_behind words)) (sym same)
    (walks words [] Free (λ a other. refl))

-- matches without a fault say which flags stand, and ask what the words mean
pub matches_right : (words : List Text) (f : Found) → fault_of tool words ≡ [] → rows_of f ≡ matches_of tool words
    → (stands : Flag → Bool) × HasFlags f stands
    × (asked_by stands (λ id. first_value f id) (raw_of f (codes "source")) ≡ asked_behind words)
matches_right words f fine rows =
    let judged : Judged [] (rows_of f) (asked_behind words) =
    subst (λ rs. Judged [] rs (asked_behind words)) (sym rows)
    (subst (λ ks. Judged ks (matches_of tool words) (asked_behind words)) fine
    (agrees words)) in (
      judged.0,
      (λ flag. one_text-rows f (flag_name flag) ∙ judged.1 flag),
      (λ i. asked_by judged.0 (λ id. first_value-rows f id i)
          (raw_values-rows f (codes "source") i)) ∙ judged.2,
    )

-- words with a fault of a kind but want of memory mean nothing
pub refusal_right : (words : List Text) (e : Error) → HasKind (fault_of tool words) e → kind_of e ≢ kind.OutOfMemory
    → None ≡ asked_behind words
refusal_right words e has other = go (fault_of tool words) (agrees words) has
  where
    go : (ks : Kinds) → Judged ks (matches_of tool words) (asked_behind words) → HasKind ks e
        → None ≡ asked_behind words
    go [] judged (inl out) = absurd (other out)
    go [] judged (inr among) = absurd among
    go (k ∷ ks) judged has_ = sym judged

-- What begins so, and what is allowed there.
use Rattle.std.specs.Prelude.{slice_index_or, drop}
use Rattle.std.proofs.Math.Seq.{take-add}
use Rattle.std.proofs.Common.{append_assoc, ◌-◌, ◌≡◌, ◌+◌, ◌++◌, ℕ, Bool, List, take, arith, ap, subst, ◌∙◌}
use Rattle.c_words.specs.declared.kinds.TokenKind.{TokenKind}
use Rattle.c_specs.specs.Laws.{WholeAreMixes, MixesGoOn}
use Rattle.c_units.specs.Units.{IsWellFormed, numbered}
use Rattle.c_units.specs.FirstBad.{BeginsUnit}
use Rattle.refusal_rules.specs.Laws.{UnitsAreTrees, UnitsBeginAsTrees, UnitsBeginAtAnyHeight, NoneIsEarlier, FirstBadIsAllowed}
use Rattle.refusal_rules.proofs.Weaker.{item_derives}

pub units_are_trees : WholeAreMixes → MixesGoOn → UnitsAreTrees
units_are_trees whole_are goes all items unit =
    λ k d below. item_derives whole_are goes all (slice_index_or items k d) (unit.parts k d below)

pub units_begin_as_trees : UnitsAreTrees → UnitsBeginAsTrees
units_begin_as_trees are wide before b =
    (b.items, record { behind = b.behind; spelled = b.formed.tokens; derived = are _ b.items b.formed.rules })

-- what begins a well-formed unit begins one that is well formed but for its height
pub units_begin_at_any_height : UnitsBeginAtAnyHeight
units_begin_at_any_height wide before b = record {
  behind = b.behind;
  items = b.items;
  formed =
      record {
        tokens = b.formed.tokens;
        parts = b.formed.rules.parts;
        scopes = b.formed.scopes;
        named = b.formed.named;
      };
}

-- with the first of some tokens a unit begins that begins with all of them
begins_earlier : (wide : Bool) (front more : List TokenKind) → BeginsUnit wide (front ++ more) → BeginsUnit wide front
begins_earlier wide front more b = record {
  behind = more ++ b.behind;
  items = b.items;
  formed =
      subst (λ (all : List TokenKind). IsWellFormed wide (numbered all) b.items)
      (append_assoc front more b.behind) b.formed;
}

-- no refusal of a token is allowed with which, and others behind it, a well-formed unit begins
pub none_is_earlier : NoneIsEarlier
none_is_earlier wide tokens first at code begun allowed earlier =
    let m : ℕ = first - (at + 1) in
    let whole : first ≡ (at + 1) + m = omega arith in
    let parts : take first tokens ≡ take (at + 1) tokens
    ++ take m (drop (at + 1) tokens) = ap (λ (n : ℕ). take n tokens) whole ∙ take-add (at + 1) m tokens in
    allowed.none
    (begins_earlier wide (take (at + 1) tokens) (take m (drop (at + 1) tokens)) (subst (BeginsUnit wide) parts begun))

-- the first bad token may be refused for its syntax, where no unit of any height begins with the tokens up to it
pub first_bad_is_allowed : UnitsBeginAsTrees → UnitsBeginAtAnyHeight → FirstBadIsAllowed
first_bad_is_allowed trees heights wide tokens first bad none = record {
  there = bad.there;
  none = bad.none;
  before = trees wide (take first tokens) bad.before;
  height = none;
  may_be = tt;
}

use Rattle.std.proofs.Common.{arith, ◌≡◌, ℕ, List, ◌∙◌, ap}
use Rattle.std.proofs.lemmas.Result.{IfOk-weaker}
use Rattle.c_types.specs.SourceSpelling.Keys.{own_or}
use Rattle.c_types.proofs.SourceSpelling.Keys.{own_are, keys_are}
use Rattle.c_types.proofs.source_spelling.earlier.EarlierNames.keys.Goals as goal

-- behind units without tokens no keys are written, as each name has its own number
pub returns-then-self-eq0 : goal.returns-then-self-eq0
returns-then-self-eq0 c =
    let it = c.args.self.now in
    let test = c.if-self-eq0.true in
    let none : it.count ≡ 0 = omega arith in
    λ units are name.
    ap (λ (keys : List ℕ). own_or keys name) c.new.ensures.items ∙ own_are units it c.args.tokens.now name are none

-- the keys of a unit's names are those of their spellings behind the earlier units
pub returns : goal.returns
returns c =
    IfOk-weaker c.all_keys.result _ _
    (λ keys is units are name. is name ∙ keys_are units c.args.self.now c.args.tokens.now name are) c.all_keys.ensures

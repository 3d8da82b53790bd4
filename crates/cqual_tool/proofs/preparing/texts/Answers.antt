use Rattle.std.proofs.Common.{arith, ℕ, ◌+◌, ◌++◌, ◌<◌, ◌≤◌, List, length, drop, sym, ◌∙◌, ap, append-nil}
use Rattle.std.proofs.lemmas.List.{drop_all}
use Rattle.annotate.specs.declared.scene.UnitText.{UnitText as LentUnit}
use Rattle.annotate.specs.Scenes as scenes
use Rattle.c_lexer.specs.Tokens.{Lexed}
use Rattle.cqual_tool.specs.Words.{names_in}
use Rattle.cqual_tool.specs.Programs.{file_of, texts_of}
use Rattle.cqual_tool.proofs.Joining.{texts_on}
use Rattle.cqual_tool.proofs.preparing.texts.Goals as goal

-- before the first unit no text is shown, and those to come are all
pub loop-it-init : goal.loop-it-init
loop-it-init c =
    let named = names_in c.args.named.now in
    ap (λ (us : List LentUnit). scenes.units_of us ++ texts_of named c.args.tokens.now) c.new-units.ensures.items

-- the text of one more unit keeps the texts shown and to come those of all units
pub loop-it-preserved : goal.loop-it-preserved
loop-it-preserved c =
    let named = names_in c.args.named.now in
    let all = c.args.tokens.now in
    let i = c.loop-it.it-index in
    let it = c.it-item.result in
    let test = c.loop-it-test.true in
    let within : i < length all = omega arith in
    let same = ap (λ (name : List ℕ). record { file = name; lexed = it })
    (c.file_name.ensures ∙ ap (file_of named) c.unit.ensures) in
    ap (λ (us : List LentUnit). scenes.units_of us ++ texts_of named (drop (i + 1) all)) c.in_ok-push.ensures.items
    ∙ texts_on named all i it c.loop-it.units.items _ same c.it-item.is within
    ∙ c.loop-it.invariant

-- behind the last unit the texts that are shown are those of all units
pub returns : goal.returns
returns c =
    let named = names_in c.args.named.now in
    let all = c.args.tokens.now in
    let test = c.loop-it-test.false in
    let behind : length all ≤ c.loop-it.it-index = omega arith in
    sym (append-nil (scenes.units_of c.loop-it.units.items))
    ∙ ap (λ (rest : List Lexed). scenes.units_of c.loop-it.units.items ++ texts_of named rest)
    (sym (drop_all c.loop-it.it-index all behind))
    ∙ c.loop-it.invariant

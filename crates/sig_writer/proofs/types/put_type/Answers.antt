use Rattle.std.proofs.Common.{◌∙◌, ◌++◌, List, ℕ, ap, sym, not}
use Rattle.qual_types.specs.Rows.{skel_of}
use Rattle.sig_writer.specs.Halves.{before_text, behind_text}
use Rattle.sig_writer.specs.Typing.{words_by}
use Rattle.sig_writer.proofs.Halves.{round_text}
use Rattle.std.proofs.lemmas.Result.{on_ok_weaker}
use Rattle.sig_writer.proofs.Writing.{three_behind}
use Rattle.sig_writer.proofs.types.put_type.Goals as goal

-- the text of a type by its form, behind what was there
pub returns : goal.returns
returns c =
    let words = words_by c.args.typed.now in
    let s = skel_of c.args.typed.now.vars.now c.args.at in
    on_ok_weaker c.put_behind.result (λ is.
    three_behind c.args.out.now.items (before_text words s (not c.is_empty.result)) c.args.name.now
    (behind_text words s) c.in_ok-put_before.ensures c.in_ok-put.ensures is
    ∙ ap (λ (t : List ℕ). c.args.out.now.items ++ t)
    (sym (round_text words s c.args.name.now c.is_empty.result c.is_empty.ensures))) c.put_behind.ensures

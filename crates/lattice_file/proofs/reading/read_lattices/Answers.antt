use Rattle.std.proofs.Common.{subst}
use Rattle.lattice_file.specs.declared.reading.TextFault.{TextFault}
use Rattle.lattice_file.specs.Reading.{IsTextFault}
use Rattle.lattice_file.proofs.AnswerLemmas.{answer_only, bad_no_text}
use Rattle.lattice_file.proofs.reading.read_lattices.Goals as goal

pub returns-in-Err-At-clause-only : goal.returns-in-Err-At-clause-only
returns-in-Err-At-clause-only c blocks text =
    bad_no_text c.args.wide c.args.bytes.now c.in-Err-At.place blocks (subst (λ (fault : TextFault).
    IsTextFault c.args.wide c.args.bytes.now fault) c.in-Err-At.field-0-is c.in-Err-At.ensures.first) text

pub returns-clause-only : goal.returns-clause-only
returns-clause-only c other text =
    answer_only c.args.wide c.args.bytes.now c.in-Ok.blocks.items other c.lattices_of.result c.in-Ok.ensures.text
    c.lattices_of.ensures text

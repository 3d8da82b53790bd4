use Rattle.certificate_reader.specs.Lines.{lines_of}
use Rattle.certificate_reader.proofs.OneFault.{shaped_has_none}
use Rattle.certificate_reader.proofs.Plain.{read_shaped, read_known}
use Rattle.certificate_reader.proofs.laws.text_has_no_fault.Goals as goal

pub returns : goal.returns
returns c = λ sys orders bytes parts fault bounded reads placed.
    shaped_has_none sys orders (lines_of bytes) fault (read_shaped sys orders bytes parts bounded reads)
    (read_known sys orders bytes parts bounded reads) placed

-- The external functions of a program, as the code holds them.
use Rattle.std.specs.Prelude.{◌≡◌, ℕ, List, map, slice_get, Some, codes}
use Rattle.flow_graph.specs.System.{System}
use Rattle.flow_graph.specs.declared.constraint.Constraint.{Constraint}
use Rattle.annotate.specs.Texts.{Scene, UnitText, place_text}
use Rattle.annotate.specs.Scenes.{AreApart}
use Rattle.sig_writer.specs.Library.{external_at, externals_by}
use Rattle.sig_writer.specs.Nodes.{AreInOrder}
use Rattle.sig_writer.specs.Parts.{AreOwnedApart}
use Rattle.sig_writer.specs.Signatures.{External}
use Rattle.sig_writer.specs.declared.lines.Library.{Library}
use Rattle.sig_writer.specs.declared.lines.SigFault.{SigFault}
use Rattle.sig_writer.specs.declared.lines.SigFault.TheVariants.{Unwritable, NoSign, NoMemory as OutOfMemory}
use Rattle.std.specs.declared.alloc.Global.{Global}
use Rattle.std.specs.declared.vec.Vec.{Vec}
use Rattle.cqual_tool.specs.declared.preparing.Ready.{Ready}
use Rattle.cqual_tool.specs.Programs.{Judging, texts_of}
use Rattle.cqual_tool.specs.Statuses.{Says}
use Rattle.cqual_tool.specs.Texts.{no_signature_at}
use Rattle.cqual_tool.specs.declared.answer.Answer.{Answer}
use Rattle.cqual_tool.specs.declared.status.Status.TheVariants.{Accepted, NoSignature}
use Rattle.cqual_tool.specs.Words.{FileNames}

-- what the code holds is what is judged
abbrev pub IsLibraryOf : Judging → Library → Type 0
IsLibraryOf it library = it.externals ≡ externals_by library

-- those of a program that is read, with these texts of its units
abbrev pub externals_held : List UnitText → Ready → List External
externals_held units it = map (external_at units it.made.skeletons) it.functions.items

-- Signatures may be asked of a program: no two of its units have one number, its skeletons have their variables in
-- pre-order, and no function owns nodes of two external ones.
pub record MaySign (it : Ready) : Type 0 where
  pub units : (named : FileNames) → AreApart (texts_of named it.tokens.items)
  pub skeletons : AreInOrder it.made.skeletons
  pub apart : (units : List UnitText) → AreOwnedApart it.made.graph (externals_held units it)

-- the line of a library whose constraint of this number has a variable of nobody
abbrev pub SaysShared : Scene → System → ℕ → Answer → Type 0
SaysShared scene sys n answer = (constraint : Constraint) × (slice_get sys.constraints n ≡ Some constraint)
    × Says NoSignature
    (no_signature_at (place_text scene constraint.span.unit constraint.span.from) (codes "U2")) answer

-- the line of a library of which a function has no signature; want of memory has none
abbrev pub SaysRefused : Scene → SigFault → Answer → Type 0
SaysRefused scene (Unwritable p) answer =
    Says NoSignature (no_signature_at (place_text scene p.0 p.1) (codes "U3")) answer
SaysRefused scene (NoSign p) answer = Says NoSignature (no_signature_at (place_text scene p.0 p.1) (codes "U4")) answer
SaysRefused scene OutOfMemory answer = ⊥

-- the answer of an accepted program, with this text
abbrev pub accepted_with : Vec ℕ Global → Answer
accepted_with text = record { status = Accepted; text = text }

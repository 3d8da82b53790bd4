-- What a certificate that does not read comes to.
use Rattle.std.proofs.Common.{◌≡◌, ℕ, List, Some, subst}
use Rattle.lattice_core.specs.Order.{Order}
use Rattle.flow_graph.specs.System.{System}
use Rattle.certificate_reader.specs.Grammar.{IsPlaced}
use Rattle.certificate_reader.specs.Lines.{lines_of}
use Rattle.certificate_reader.specs.declared.section.CertFault.{CertFault}
use Rattle.certificate_reader.specs.declared.section.CertFault.TheVariants.{Grammar, NoSuchVariable, NoMemory}
use Rattle.certificate_checks.specs.declared.judging.Verdict.{Verdict}
use Rattle.certificate_checks.specs.Checks.{ComesTo, StopsAt, NamesNone, unread_of}

some_verdict : {x y : Verdict} → Some x ≡ Some y → x ≡ y
some_verdict e = cc

-- a text with a fault at its place comes to the verdict of that fault
pub fault_comes : (sys : System) (orders : List Order) (text : List ℕ) (fault : CertFault) (verdict : Verdict)
    → unread_of fault ≡ Some verdict →
    IsPlaced sys orders (lines_of text) fault → ComesTo sys orders text verdict
fault_comes sys orders text (Grammar line) verdict is placed =
    subst (ComesTo sys orders text) (some_verdict is) (StopsAt line placed)
fault_comes sys orders text (NoSuchVariable line) verdict is placed =
    subst (ComesTo sys orders text) (some_verdict is) (NamesNone line placed)
fault_comes sys orders text NoMemory verdict is placed = absurd cc

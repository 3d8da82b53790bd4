-- The certificate of an accepted program.
use Rattle.std.specs.Prelude.{◌≡◌, ℕ, List, length, slice_get, Some}
use Rattle.lattice_core.specs.Order.{Order}
use Rattle.flow_graph.specs.System.{System}
use Rattle.certificate_laws.specs.Certificates.{IsWritten}
use Rattle.closure_check.specs.declared.part.Part.{Part}
use Rattle.closure_check.specs.Parts.{certificate_of, IsPart}
use Rattle.certificate_text.specs.Text.{certificate_text}

-- for each lattice the certificate that is written of it
pub record AreWritten (sys : System) (orders : List Order) (parts : List Part) : Type 0 where
  pub as_many : length parts ≡ length orders
  pub each : (n : ℕ) (order : Order) (part : Part) → slice_get orders n ≡ Some order → slice_get parts n ≡ Some part →
      IsPart sys order part × IsWritten sys n (certificate_of part)

-- a text is that of these certificates
pub record IsCertificate (sys : System) (orders : List Order) (text : List ℕ) : Type 0 where
  pub parts : List Part
  pub written : AreWritten sys orders parts
  pub spelled : text ≡ certificate_text sys parts

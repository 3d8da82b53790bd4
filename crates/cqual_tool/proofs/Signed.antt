-- What comes of a library whose signatures are asked for.
use Rattle.std.proofs.Common.{◌≡◌, ℕ, zero, suc, List, [], ◌∷◌, slice_get, Some, None, codes, refl, sym, ◌∙◌, ap, subst}
use Rattle.std.specs.Prelude.{IfOk, IfSome, option_map}
use Rattle.std.specs.declared.alloc.Global.{Global}
use Rattle.std.specs.declared.option.Option.{Option}
use Rattle.std.specs.declared.vec.Vec.{Vec}
use Rattle.std.specs.List.{flat_map}
use Rattle.std.specs.declared.result.Result.{Result}
use Rattle.std.proofs.lemmas.Result.{IfOk-weaker}
use Rattle.lattice_core.specs.Order.{Order}
use Rattle.lattice_core.specs.View.{LatticeView, orders_of}
use Rattle.flow_graph.specs.System.{System}
use Rattle.flow_graph.specs.Unfolding.{IsAccepted, IsAcceptedIn}
use Rattle.annotate.specs.Reports.{AcceptedWith}
use Rattle.annotate.specs.Texts.{place_text}
use Rattle.sig_writer.specs.Signatures.{External, Found, Refusal, NoPlace, NoWord, first_refusal, lines_of, nodes_of}
use Rattle.sig_writer.specs.Found.{IsFoundAt}
use Rattle.sig_writer.specs.Signing.{IsFault, IsRefused, IsWritten}
use Rattle.sig_writer.specs.declared.lines.SigFault.{SigFault}
use Rattle.sig_writer.specs.declared.lines.SigFault.TheVariants.{Unwritable as Unwritten, NoSign, NoMemory as OutOfMemory}
use Rattle.sig_writer.specs.Suits.{IsFirstShared, IsOnePlain, IsUnsuited, Suits}
use Rattle.sig_writer.specs.declared.suiting.Unsuited.{Unsuited}
use Rattle.sig_writer.specs.declared.suiting.Unsuited.TheVariants.{Lattice, Shared as SharedOne}
use Rattle.cqual_tool.specs.declared.status.Status.{Status}
use Rattle.cqual_tool.specs.declared.status.Status.TheVariants.{Accepted, Rejected, PathsHold, PathBad, CertificateHolds, CertificateBad, Answered, NoName, NoSignature, Malformed, BadWords, ReadFault, WriteFault, NoMemory}
use Rattle.cqual_tool.specs.declared.answer.Answer.{Answer}
use Rattle.cqual_tool.specs.Programs.{Judging}
use Rattle.cqual_tool.specs.Signing.{accepted_with, SaysRefused, SaysShared}
use Rattle.cqual_tool.specs.Statuses.{Says}
use Rattle.cqual_tool.specs.Texts.{no_signature_at, no_signature_line}
use Rattle.cqual_tool.specs.Outcome.{IsDecided, IsReport, IsRight, IsWrong, IsSigned, NoLattice, Shared, Unsigned, Unwritable, Signed, refusal_line}
use Rattle.cqual_tool.proofs.Outcomes.{at_equal}

view_is : {x y : LatticeView} → Some x ≡ Some y → x ≡ y
view_is e = cc

order_is : {x y : Order} → Some x ≡ Some y → x ≡ y
order_is e = cc

-- ---- the one lattice

-- where a library suits, its lattice at index 0 is its only one
pub one_lattice : (sys : System) (lattices : List LatticeView) (got : LatticeView) → Suits sys lattices
    → slice_get lattices 0 ≡ Some got →
    lattices ≡ got ∷ []
one_lattice sys lattices got suits there =
    let one = suits.one in
    let first : slice_get lattices 0 ≡ Some one.0 = ap (λ (ls : List LatticeView). slice_get ls 0) one.1 in
    one.1 ∙ ap (λ (l : LatticeView). l ∷ []) (view_is (sym first ∙ there))

-- constraints that are accepted over their one lattice are accepted over the list of it alone
pub accepted_one : (sys : System) (lattices : List LatticeView) (got : LatticeView) → lattices ≡ got ∷ []
    → IsAcceptedIn sys 0 got.order →
    IsAccepted sys (orders_of lattices)
accepted_one sys lattices got is accepted =
    subst (λ (ls : List LatticeView). IsAccepted sys (orders_of ls)) (sym is) only
  where
    only : IsAccepted sys (orders_of (got ∷ []))
    only zero order there = subst (λ (o : Order). IsAcceptedIn sys 0 o) (order_is there) accepted
    only (suc n) order there = absurd cc

-- what is accepted in all lattices is accepted in the first
pub one_accepted : (sys : System) (lattices : List LatticeView) (got : LatticeView) → slice_get lattices 0 ≡ Some got →
    IsAccepted sys (orders_of lattices) → IsAcceptedIn sys 0 got.order
one_accepted sys (l ∷ lattices) got there accepted =
    subst (λ (v : LatticeView). IsAcceptedIn sys 0 v.order) (view_is there) (accepted 0 l.order refl)
one_accepted sys [] got there accepted = absurd cc

-- ---- what is said, as the code holds it

module _ (it : Judging) (sys : System) (lattices : List LatticeView) (same : it.scene.lattices ≡ lattices)
    (system : it.system ≡ sys) where
  suits_as : Suits sys lattices → Suits it.system it.scene.lattices
  suits_as suits =
      subst (λ (s : System). Suits s it.scene.lattices) (sym system)
      (subst (λ (ls : List LatticeView). Suits sys ls) (sym same) suits)

  accepted_as : IsAccepted sys (orders_of lattices) → IsAccepted it.system (orders_of it.scene.lattices)
  accepted_as accepted =
      subst (λ (s : System). IsAccepted s (orders_of it.scene.lattices)) (sym system)
      (subst (λ (ls : List LatticeView). IsAccepted sys (orders_of ls)) (sym same) accepted)

  -- why a library does not suit
  pub no_lattice : (fault : Unsuited) (answer : Answer) → fault ≡ Lattice → IsUnsuited sys lattices fault →
      Says NoSignature (no_signature_line (codes "U1")) answer → IsSigned it answer.status answer.text.items
  no_lattice fault answer is unsuited says =
      let none : IsOnePlain lattices → ⊥ = subst (λ (f : Unsuited). IsUnsuited sys lattices f) is unsuited in
      at_equal (IsSigned it) answer.status NoSignature answer.text.items (no_signature_line (codes "U1")) says.0 says.1
      (NoLattice (subst (λ (ls : List LatticeView). IsOnePlain ls → ⊥) (sym same) none))

  pub shared_as : (fault : Unsuited) (n : ℕ) (answer : Answer) → fault ≡ SharedOne n → IsUnsuited sys lattices fault →
      SaysShared it.scene sys n answer → IsSigned it answer.status answer.text.items
  shared_as fault n answer is unsuited says =
      let first = subst (λ (f : Unsuited). IsUnsuited sys lattices f) is unsuited in
      let c = says.0 in
      at_equal (IsSigned it) answer.status NoSignature answer.text.items
      (no_signature_at (place_text it.scene c.span.unit c.span.from) (codes "U2")) says.2.0 says.2.1
      (Shared n c (subst (λ (ls : List LatticeView). IsOnePlain ls) (sym same) first.0)
      (subst (λ (s : System). IsFirstShared s n) (sym system) first.1)
      (subst (λ (s : System). slice_get s.constraints n ≡ Some c) (sym system) says.1))

  -- the lines, or the function that has none
  module _ (got : LatticeView) (functions : List External) (named : it.externals ≡ functions)
      (suits : Suits sys lattices) (one : lattices ≡ got ∷ [])
      (accepted : IsAcceptedIn sys 0 got.order) where
    found_as : (found : Found) → IsFoundAt sys 0 got.order (flat_map nodes_of functions) found →
        IsFoundAt it.system 0 got.order (flat_map nodes_of it.externals) found
    found_as found is =
        subst (λ (s : System). IsFoundAt s 0 got.order (flat_map nodes_of it.externals) found) (sym system)
        (subst (λ (es : List External). IsFoundAt sys 0 got.order (flat_map nodes_of es) found) (sym named) is)

    pub signed_as : (text : List ℕ) → IsWritten sys got functions text → IsSigned it Accepted text
    signed_as text written =
        subst (IsSigned it Accepted) (ap (λ (es : List External). lines_of written.it got es) named ∙ sym written.is)
        (Signed got written.it (suits_as suits) (same ∙ one) (accepted_as (accepted_one sys lattices got one accepted))
        (found_as written.it written.found)
        (ap (λ (es : List External). first_refusal written.it got es) named ∙ written.none))

    pub unwritable_as : (refusal : Refusal) (answer : Answer) → IsRefused sys got functions refusal
        → answer.status ≡ NoSignature →
        answer.text.items ≡ refusal_line it.scene refusal → IsSigned it answer.status answer.text.items
    unwritable_as refusal answer refused status text =
        at_equal (IsSigned it) answer.status NoSignature answer.text.items (refusal_line it.scene refusal) status text
        (Unwritable got refused.it refusal (suits_as suits) (same ∙ one)
        (accepted_as (accepted_one sys lattices got one accepted))
        (found_as refused.it refused.found)
        (ap (λ (es : List External). first_refusal refused.it got es) named ∙ refused.some))

    pub refused_as : (fault : SigFault) (answer : Answer) → IsFault sys got functions fault
        → SaysRefused it.scene fault answer →
        IsSigned it answer.status answer.text.items
    refused_as (Unwritten p) answer refused says = unwritable_as (NoPlace p) answer refused says.0 says.1
    refused_as (NoSign p) answer refused says = unwritable_as (NoWord p) answer refused says.0 says.1
    refused_as OutOfMemory answer refused says = absurd says

  -- the report of a program that may have signatures and is not accepted
  unsigned : Suits sys lattices → (IsAccepted sys (orders_of lattices) → ⊥) → (status : Status) (text : List ℕ)
      → IsReport None it status text →
      IsSigned it status text
  unsigned suits never Accepted text (IsRight _ (AcceptedWith _ report is spelled)) =
      absurd (never (subst (λ (s : System). IsAccepted s (orders_of lattices)) system
      (subst (λ (ls : List LatticeView). IsAccepted it.system (orders_of ls)) same is.accepted)))
  unsigned suits never Rejected text (IsWrong _ is) = Unsigned text (suits_as suits) is
  unsigned suits never PathsHold text is = elim is [ ]
  unsigned suits never PathBad text is = elim is [ ]
  unsigned suits never CertificateHolds text is = elim is [ ]
  unsigned suits never CertificateBad text is = elim is [ ]
  unsigned suits never Answered text is = elim is [ ]
  unsigned suits never NoName text is = elim is [ ]
  unsigned suits never NoSignature text is = elim is [ ]
  unsigned suits never Malformed text is = elim is [ ]
  unsigned suits never BadWords text is = elim is [ ]
  unsigned suits never ReadFault text is = elim is [ ]
  unsigned suits never WriteFault text is = elim is [ ]
  unsigned suits never NoMemory text is = elim is [ ]

  pub unsigned_as : {E : Type 0} (result : Result Answer E) → Suits sys lattices
      → (IsAccepted sys (orders_of lattices) → ⊥) →
      IfOk result (λ answer. IsReport None it answer.status answer.text.items) →
      IfOk result (λ answer. IsSigned it answer.status answer.text.items)
  unsigned_as result suits never is =
      IfOk-weaker result _ _ (λ answer report. unsigned suits never answer.status answer.text.items report) is

-- ---- what is found, or why nothing is

pub not_none : {X : Type 0} (x : X) → Some x ≡ None → ⊥
not_none x is = cc

pub accepted_of : (P : Answer → Type 0) (found : Option (Vec ℕ Global))
    → IfSome found (λ text. P (accepted_with text)) →
    IfSome (option_map accepted_with found) P
accepted_of P None p = tt
accepted_of P (Some text) p = p

pub none_of : (found : Option (Vec ℕ Global)) → option_map accepted_with found ≡ None → found ≡ None
none_of None is = refl
none_of (Some text) is = absurd cc

pub both_of : (found : Option (Vec ℕ Global)) {P Q R : Vec ℕ Global → Type 0} → IfSome found P → IfSome found Q
    → ((text : Vec ℕ Global) → P text → Q text → R text) →
    IfSome found R
both_of None p q f = tt
both_of (Some text) p q f = f text p q

pub all_decided : (found : Option (Vec ℕ Global))
    → IfSome (option_map accepted_with found) (λ answer. IsDecided answer.status)
all_decided None = tt
all_decided (Some text) = tt

pub some_of : {X : Type 0} (P : X → Type 0) (o : Option X) (x : X) → o ≡ Some x → IfSome o P → P x
some_of P None x is p = absurd cc
some_of P (Some y) x is p = let same : y ≡ x = cc in subst P same p

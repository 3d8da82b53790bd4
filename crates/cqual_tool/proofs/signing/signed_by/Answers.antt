use Rattle.std.proofs.Common.{◌≡◌, Some, slice_get, sym, ◌∙◌, subst}
use Rattle.sig_writer.specs.Library.{externals_by}
use Rattle.cqual_tool.proofs.Signed.{accepted_of, all_decided, both_of, none_of, not_none, one_accepted, one_lattice, refused_as, signed_as}
use Rattle.cqual_tool.proofs.signing.signed_by.Goals as goal

-- the lines of an accepted library are the answer for its signatures
pub returns-in-Ok-clause-signed : goal.returns-in-Ok-clause-signed
returns-in-Ok-clause-signed c =
    let sys = c.args.graph.now in
    let lattices = c.args.scene.now.lattices.now in
    let got = c.get.result.now in
    let there : slice_get c.args.scene.now.lattices.now 0 ≡ Some got =
    subst (λ n. slice_get c.args.scene.now.lattices.now n ≡ Some got) c.new.ensures c.get.ensures in
    let one = one_lattice sys lattices got c.requires.suits there in
    rw c.written.ensures
    (accepted_of _ c.in-Ok.found
    (both_of c.in-Ok.found c.in-Ok.ensures.lines c.in-Ok.ensures.accepted
    (λ text lines accepted it shows system library.
    signed_as it sys lattices shows.lattices system got
    (externals_by c.args.library.now) library c.requires.suits one accepted text.items lines)))

pub returns-in-Ok-clause-decided : goal.returns-in-Ok-clause-decided
returns-in-Ok-clause-decided c = rw c.written.ensures (all_decided c.in-Ok.found)

-- where nothing is signed of a library that suits, its constraints are not accepted
pub returns-in-Ok-clause-rejected : goal.returns-in-Ok-clause-rejected
returns-in-Ok-clause-rejected c = λ none accepted.
    let got = c.get.result.now in
    let there : slice_get c.args.scene.now.lattices.now 0 ≡ Some got =
    subst (λ n. slice_get c.args.scene.now.lattices.now n ≡ Some got) c.new.ensures c.get.ensures in
    c.in-Ok.ensures.rejected (none_of c.in-Ok.found (sym c.written.ensures ∙ none))
    (one_accepted c.args.graph.now c.args.scene.now.lattices.now got there accepted)

-- the line of a function without a signature is the answer of an accepted library that suits
pub returns-in_ok-refused-in-Err-clause-signed : goal.returns-in_ok-refused-in-Err-clause-signed
returns-in_ok-refused-in-Err-clause-signed c = λ it shows system library.
    let sys = c.args.graph.now in
    let lattices = c.args.scene.now.lattices.now in
    let got = c.get.result.now in
    let there : slice_get c.args.scene.now.lattices.now 0 ≡ Some got =
    subst (λ n. slice_get c.args.scene.now.lattices.now n ≡ Some got) c.new.ensures c.get.ensures in
    let said = c.in_ok-refused-in-Err in
    refused_as it sys lattices shows.lattices system got (externals_by c.args.library.now) library c.requires.suits
    (one_lattice sys lattices got c.requires.suits there) (c.in-Err.ensures.accepted_too said.ensures.reason)
    c.in-Err.fault said.field-0 c.in-Err.ensures.fault (said.ensures.line it.scene shows)

pub returns-in_ok-refused-in-Err-clause-rejected : goal.returns-in_ok-refused-in-Err-clause-rejected
returns-in_ok-refused-in-Err-clause-rejected c = λ none. absurd (not_none c.in_ok-refused-in-Err.field-0 none)

use Rattle.std.proofs.Common.{◌≡◌, ℕ, List, Option, subst, sym, ◌∙◌}
use Rattle.std.proofs.lemmas.Result.{IfOk-weaker}
use Rattle.lattice_core.specs.View.{orders_of}
use Rattle.certificate_text.specs.Names.{AreNames}
use Rattle.certificate_reader.specs.Grammar.{alls_of}
use Rattle.certificate_reader.proofs.WholeLemmas.{few_alls, bounded_of, reads_as, faults_placed, refused_for_memory}
use Rattle.certificate_reader.proofs.reader.read_certificate.Goals as goal

pub read_lines-requires-clause-names : goal.read_lines-requires-clause-names
read_lines-requires-clause-names c =
    subst (λ (t : List (Option ℕ)). AreNames c.args.graph.now t) (sym c.as_slice.ensures.value) c.in-Ok.ensures

pub read_lines-requires-clause-few : goal.read_lines-requires-clause-few
read_lines-requires-clause-few c =
    few_alls c.args.lattices.now c.as_slice-2.result.now
    (c.as_slice-2.ensures.value ∙ c.in-Ok-all_sets.ensures.sets) c.all_sets.ensures.few

-- what is read is the certificates of all lattices, whose text is that of the bytes
pub returns-clause-reads : goal.returns-clause-reads
returns-clause-reads c =
    let are : c.as_slice-2.result.now ≡ alls_of (orders_of c.args.lattices.now) =
    c.as_slice-2.ensures.value ∙ c.in-Ok-all_sets.ensures.sets in
    IfOk-weaker c.read_lines.result _ _ (λ parts is. reads_as c.args.graph.now (orders_of c.args.lattices.now)
    c.as_slice-2.result.now are c.args.bytes.now parts.items is) c.read_lines.ensures.reads

-- where the answer is a fault but want of memory, the text reads as no certificates
pub returns-clause-whole : goal.returns-clause-whole
returns-clause-whole c =
    let are : c.as_slice-2.result.now ≡ alls_of (orders_of c.args.lattices.now) =
    c.as_slice-2.ensures.value ∙ c.in-Ok-all_sets.ensures.sets in
    refused_for_memory c.args.graph.now (orders_of c.args.lattices.now) c.args.bytes.now c.read_lines.result
    (bounded_of c.args.graph.now c.args.lattices.now c.law.ensures.few c.all_sets.ensures.few
    c.in-Ok-all_sets.ensures.small)
    (faults_placed c.args.graph.now (orders_of c.args.lattices.now) c.as_slice-2.result.now are c.args.bytes.now
    c.read_lines.result c.read_lines.ensures.fault)

-- the fault that is answered is at the line where it should be
pub returns-clause-fault : goal.returns-clause-fault
returns-clause-fault c =
    let are : c.as_slice-2.result.now ≡ alls_of (orders_of c.args.lattices.now) =
    c.as_slice-2.ensures.value ∙ c.in-Ok-all_sets.ensures.sets in
    faults_placed c.args.graph.now (orders_of c.args.lattices.now) c.as_slice-2.result.now are c.args.bytes.now
    c.read_lines.result c.read_lines.ensures.fault

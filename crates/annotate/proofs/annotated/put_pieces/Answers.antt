use Rattle.std.proofs.Common.{◌≡◌, ℕ, List, ◌++◌, ◌+◌, ◌-◌, length, take, drop, slice_get, Some, refl, ◌∙◌, ap, arith}
use Rattle.std.proofs.lemmas.Option.{slice_get_read}
use Rattle.std.proofs.lemmas.Result.{on_ok_weaker}
use Rattle.annotate.specs.Annotated.{behind, pieces_from, with_comments}
use Rattle.annotate.specs.Comments.{closed}
use Rattle.annotate.proofs.Annotating.{first_pieces, next_piece, last_piece}
use Rattle.annotate.proofs.annotated.put_pieces.Goals as goal

-- before the first token the pieces still to come are those of all bytes
pub loop-n-init : goal.loop-n-init
loop-n-init c =
    λ items hold. first_pieces items (behind c.args.tokens.now)
    (length c.args.tokens.now.tokens) c.unit_bytes-left.result.now c.args.tokens.now.bytes c.args.out.now.items
    c.unit_bytes-left.ensures

-- the piece of one token more keeps the text that is written and still to come that of the whole unit
pub loop-n-preserved : goal.loop-n-preserved
loop-n-preserved c =
    λ items hold.
    let ends = behind c.args.tokens.now in
    let count = length c.args.tokens.now.tokens in
    let at = c.loop-n.at in
    let left = c.loop-n.left.now in
    let out = c.loop-n.out.items in
    let comment = c.index-comments-n.result in
    let there : slice_get c.args.comments.now c.loop-n.n
    ≡ Some comment = slice_get_read c.args.comments.now (length c.args.comments.now) c.loop-n.n comment refl
    (omega arith) c.index-comments-n.is in
    let cut : c.saturating_sub-count.result
    ≡ ends c.loop-n.n - at =
    c.saturating_sub-count.ensures ∙ ap (λ b. b - at) (c.place_behind.ensures ∙ ap ends c.new.ensures) in
    let rest : ℕ → List ℕ → List ℕ = λ k l. with_comments
    (pieces_from items ends (at + k) l (c.loop-n.n + 1) (count - (c.loop-n.n + 1))) in
    ap (λ (t : List ℕ). t ++ rest c.saturating_sub-count.result c.in_ok-left.left.now) c.in_ok-left.ensures.text
    ∙ ap (λ (l : List ℕ). (out ++ (take c.saturating_sub-count.result left ++ closed c.deref.result.now)) ++ rest
    c.saturating_sub-count.result l) c.in_ok-left.ensures.rest
    ∙ ap (λ k. (out ++ (take k left ++ closed c.deref.result.now)) ++ rest k (drop k left)) cut
    ∙ next_piece items ends at c.loop-n.n count left out c.deref.result.now (omega arith) (c.deref.ensures.value
    ∙ hold c.loop-n.n comment there)
    ∙ c.loop-n.invariant items hold

-- behind the last token the bytes that are left end the text of the unit
pub returns : goal.returns
returns c =
    on_ok_weaker c.put.result (λ put items hold. put ∙ last_piece items (behind c.args.tokens.now) c.loop-n.at
    c.loop-n.n (length c.args.tokens.now.tokens) c.loop-n.left.now c.loop-n.out.items (omega arith)
    ∙ c.loop-n.invariant items hold) c.put.ensures

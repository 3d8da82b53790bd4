use Rattle.std.proofs.Common.{◌≡◌, ℕ, ◌+◌, ◌<◌, [], ◌∷◌, ◌++◌, ◌∙◌, ap, length, refl, arith}
use Rattle.std.proofs.lemmas.List.{get_or_read}
use Rattle.match_summary.proofs.Chaining.{chained_push}
use Rattle.match_summary.proofs.chains.Chains.push.Goals as goal

-- keys with one more are chained when its place is the newest of the key and names the one before it
pub returns-clause-ok : goal.returns-clause-ok
returns-clause-ok c = λ keys are.
    let room = c.in_ok-make_room.ensures in
    let within : c.args.key < length c.make_room.new.links.items = let least = room.room in omega (arith, least) in
    let place : c.in-Ok.at ≡ length keys + 1 =
    c.in-Ok.ensures.1 ∙ ap (λ n. n + 1) (c.len.ensures ∙ (c.args.self.now.before.ok).0 ∙ are.size) in
    chained_push keys c.args.key c.in-Ok.at c.args.self.now _ are c.make_room.new.links.items room.same within
    (c.in_ok-push.ensures.items ∙ ap (λ (x : ℕ). c.args.self.now.before.items ++ x ∷ [])
    (get_or_read c.make_room.new.links.items c.args.key c.index.result.now within c.index.ensures 0)) refl place

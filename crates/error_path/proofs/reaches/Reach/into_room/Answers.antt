use Rattle.std.proofs.Common.{◌≡◌, ℕ, ◌≤◌, List, length, ◌∙◌, sym, ap, subst}
use Rattle.std.proofs.lemmas.List.{with_items_is}
use Rattle.flow_graph.specs.System.{AllBelow}
use Rattle.error_path.specs.Rooms.{HasNoFirst}
use Rattle.error_path.proofs.Rooming.{firsts_placed, ArePlaced}
use Rattle.error_path.proofs.reaches.Reach.into_room.Goals as goal

pub clear_found-requires-clause-marked : goal.clear_found-requires-clause-marked
clear_found-requires-clause-marked c = c.requires.3.room.marked

-- each variable that has a first place is in the queue of what was found
pub clear_found-requires-clause-placed : goal.clear_found-requires-clause-placed
clear_found-requires-clause-placed c =
    let queue = c.args.self.found.queue.items in
    let Of : List ℕ → Type 0 = λ firsts. ArePlaced firsts queue in
    subst Of (sym c.deref_mut.ensures.value) (firsts_placed queue c.args.self.found.firsts.items c.requires.3.is.firsts)

-- the room that a reach leaves has nothing set and is as large as the system needs
pub returns : goal.returns
returns c = λ sys lattice start is.
    let Below : ℕ → Type 0 = λ k. AllBelow sys k in
    let Few : ℕ → Type 0 = λ k. length sys.constraints ≤ k in
    let None : List ℕ → Type 0 = λ firsts. HasNoFirst firsts in
    let v = c.args.self.found.firsts in
    let size : length c.clear_found.new.firsts ≡ length v.items =
    c.clear_found.ensures.length ∙ ap length c.deref_mut.ensures.value in
    let same = with_items_is v c.clear_found.new.firsts (size ∙ sym v.ok.0) in
    record {
      vars = subst Below (sym c.clear_found.ensures.size) is.room.vars;
      constraints = subst Few (sym c.clear.ensures.size) is.room.constraints;
      places = ap length same ∙ size ∙ is.room.places ∙ sym c.clear_found.ensures.size;
      unmarked = c.clear_found.ensures.unmarked;
      none_passed = c.clear.ensures.none;
      none_placed = subst None (sym same) c.clear_found.ensures.none;
    }

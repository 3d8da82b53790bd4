use Rattle.std.proofs.Common.{◌≡◌, ℕ, List, length, ◌∙◌, sym, ap, subst}
use Rattle.std.specs.Vec.{with_items}
use Rattle.std.proofs.lemmas.List.{with_items_is}
use Rattle.error_path.specs.Marks.{size_of}
use Rattle.error_path.specs.Reaches.{AreBelow, AreFirsts}
use Rattle.error_path.specs.Reaching.{HasRoom}
use Rattle.error_path.specs.declared.search.Reached.{Reached}
use Rattle.flow_graph.specs.System.{AllBelow}
use Rattle.error_path.proofs.Found.{sound_below}
use Rattle.error_path.proofs.reaches.reach_in.Goals as goal

-- each variable in the queue of the search is below the number of places
pub set_firsts-requires-clause-below : goal.set_firsts-requires-clause-below
set_firsts-requires-clause-below c =
    let sys = c.args.graph.now in
    let vars = length c.deref_mut.result.now in
    let size : vars ≡ size_of c.args.room.marks = ap length c.deref_mut.ensures.value ∙ c.requires.room.places in
    let Below : ℕ → Type 0 = λ k. AllBelow sys k in
    let Room : ℕ → Type 0 = λ k. HasRoom c.args.origin k in
    let Of : List Reached → Type 0 = λ xs. AreBelow vars xs in
    subst Of (sym c.as_slice.ensures.value)
    (sound_below sys c.args.lattice vars c.args.origin c.args.summaries.now c.in_ok-search.search.queue.items
    (subst Below (sym size) c.requires.room.vars)
    (subst Room (sym size) c.requires.origin) c.in_ok-search.ensures.good.sound)

-- the places that were set
size_same : (c : goal.In_ok-set_firsts) → length c.set_firsts.new.firsts ≡ length c.args.room.firsts.items
size_same c = c.in_ok-set_firsts.ensures.length ∙ ap length c.deref_mut.ensures.value

firsts_same : (c : goal.In_ok-set_firsts)
    → (with_items c.args.room.firsts c.set_firsts.new.firsts).items ≡ c.set_firsts.new.firsts
firsts_same c = with_items_is c.args.room.firsts c.set_firsts.new.firsts (size_same c ∙ sym c.args.room.firsts.ok.0)

-- what a search in a room found is sound and whole and has its first places
pub returns-clause-found : goal.returns-clause-found
returns-clause-found c = record {
  rows = c.args.summaries.now;
  summarised = c.requires.summaries;
  sound = c.in_ok-search.ensures.good.sound;
  whole = c.in_ok-search.ensures.whole c.requires.summaries;
  firsts =
      let Of : List Reached → Type 0 = λ xs. AreFirsts xs c.set_firsts.new.firsts in
      let At : List ℕ → Type 0 = λ firsts. AreFirsts c.in_ok-search.search.queue.items firsts in
      subst At (sym (firsts_same c)) (subst Of c.as_slice.ensures.value c.in_ok-set_firsts.ensures.firsts);
}

-- what was found stands in a room for the system, in which only it is marked
pub returns-clause-room : goal.returns-clause-room
returns-clause-room c = record {
  vars = c.in_ok-search.ensures.good.below;
  constraints = c.in_ok-search.ensures.passed;
  places = ap length (firsts_same c) ∙ size_same c ∙ c.requires.room.places ∙ sym c.in_ok-search.ensures.marks;
  marked = λ p v mark. let l = c.in_ok-search.ensures.good.listed p v mark in (l.place, (l.it, l.there, l.at_is));
}

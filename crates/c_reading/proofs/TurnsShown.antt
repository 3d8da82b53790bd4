-- Each turn of a loop of readers takes a token, since the readers of each number do.
use Rattle.std.proofs.Common.{ℕ, suc, [], not}
use Rattle.c_specs.specs.Laws.{WholeAreMixes, MixesGoOn}
use Rattle.c_reading.specs.Expressing.{begins_desig, next_argument, next_assoc, step_with}
use Rattle.c_reading.specs.Specifying.{next_member, struct_item_with, next_enumerator}
use Rattle.c_reading.specs.Declaring.{next_param}
use Rattle.c_reading.specs.Initialising.{desig_with, next_init_item}
use Rattle.c_reading.specs.Stating.{next_init_declr, block_item_with, labels_with}
use Rattle.c_reading.specs.Tokens.{is_label_word}
use Rattle.c_reading.specs.Items.{item_with, old_declaration}
use Rattle.c_reading.specs.Knot.{knot}
use Rattle.c_reading.specs.declared.kinds.FaultKind.TheVariants.{Unexpected}
use Rattle.c_reading.specs.Reading.{Reader, Next, comma_turn, refuses}
use Rattle.c_reading.proofs.Forms.{Falls}
use Rattle.c_reading.specs.Turns.{TakesToken, TurnsTakeTokens, no_open_brace, no_close_brace, no_end}
use Rattle.c_reading.proofs.Commas.{comma_turn_shrinks}
use Rattle.c_reading.proofs.Rows.{row_turn_shrinks}
use Rattle.c_reading.proofs.ExprFalls.{next_argument_falls, next_assoc_falls, postfix_turn_shrinks, step_shrinks, operation_turn_shrinks}
use Rattle.c_reading.proofs.SpecsFalls.{next_member_falls, struct_item_shrinks, next_enumerator_falls, word_turn_shrinks}
use Rattle.c_reading.proofs.DeclrFalls.{next_param_falls, suffix_shrinks}
use Rattle.c_reading.proofs.InitShown.{desig_shrinks, next_item_falls}
use Rattle.c_reading.proofs.StmtFalls.{next_declr_falls, block_item_shrinks, labels_shrinks}
use Rattle.c_reading.proofs.ItemsFalls.{item_shrinks, old_declaration_shrinks}
use Rattle.c_reading.proofs.KnotLaws.{none_numbered, none_tokens, knot_laws}

list_turn : {T E : Type 0} (next : ℕ → Reader (Next T E)) → ((comma : ℕ) → Falls (next comma))
    → TakesToken (comma_turn next)
list_turn next falls = comma_turn_shrinks (λ s ts. refuses Unexpected ts) next falls

-- each turn of each loop of the readers of a number takes a token
pub turns_take_tokens : WholeAreMixes → MixesGoOn → (n : ℕ) → TurnsTakeTokens n
turns_take_tokens whole goes n =
    let laws = knot_laws whole goes n in
    record {
      arguments = λ room.
          list_turn (next_argument (knot n) room) (next_argument_falls [] none_tokens (suc n) (knot n) laws room);
      associations =
          λ room. list_turn (next_assoc (knot n) room) (next_assoc_falls [] none_tokens (suc n) (knot n) laws room);
      postfixes = λ room. postfix_turn_shrinks [] none_tokens (suc n) (knot n) laws room;
      steps = λ room. row_turn_shrinks begins_desig (step_with (knot n) room)
          (step_shrinks [] none_tokens (suc n) (knot n) laws room);
      operations = λ reach room. operation_turn_shrinks [] none_tokens (suc n) (knot n) laws reach room;
      words = λ role room. word_turn_shrinks [] none_tokens (suc n) (knot n) laws role room;
      members =
          λ room. list_turn (next_member (knot n) room) (next_member_falls [] none_tokens (suc n) (knot n) laws room);
      struct_items = λ room. row_turn_shrinks no_close_brace (struct_item_with (knot n) room)
          (struct_item_shrinks [] none_tokens (suc n) (knot n) laws room);
      enumerators = λ room.
          list_turn (next_enumerator (knot n) room) (next_enumerator_falls [] none_tokens (suc n) (knot n) laws room);
      params =
          λ room. list_turn (next_param (knot n) room) (next_param_falls [] none_tokens (suc n) (knot n) laws room);
      suffixes = λ flag room. suffix_shrinks [] none_tokens (suc n) (knot n) laws flag room;
      desigs = λ room. row_turn_shrinks begins_desig (desig_with (knot n) room)
          (desig_shrinks [] none_numbered none_tokens (suc n) (knot n) laws room);
      init_items = λ room. list_turn (next_init_item (knot n) room)
          (next_item_falls [] none_numbered none_tokens (suc n) (knot n) laws room);
      declrs = λ kind room. list_turn (next_init_declr (knot n) kind room)
          (next_declr_falls [] none_tokens (suc n) (knot n) laws kind room);
      block_items = λ room. row_turn_shrinks no_close_brace (block_item_with (knot n) room)
          (block_item_shrinks [] none_tokens (suc n) (knot n) laws room);
      labels = λ room. row_turn_shrinks is_label_word (labels_with (knot n) room)
          (labels_shrinks [] none_tokens (suc n) (knot n) laws room);
      old_declarations = λ room. row_turn_shrinks no_open_brace (old_declaration (knot n) room)
          (old_declaration_shrinks [] none_tokens (suc n) (knot n) laws room);
      items = λ room.
          row_turn_shrinks no_end (item_with (knot n) room) (item_shrinks [] none_tokens (suc n) (knot n) laws room);
    }

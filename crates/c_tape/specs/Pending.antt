-- What is left to be put on a tape.
use Rattle.std.specs.Prelude.{false, List, [], ◌∷◌, ◌++◌, map, Option, None, Some}
use Rattle.c_tree.specs.View.{expr_of, declaration_of, declr_of, stmt_of}
use Rattle.c_tree.specs.Unit.{spec_words_from, block_items_from}
use Rattle.c_tree.specs.Lists.{assocs_from, exprs_from, struct_items_from, mem_declrs_from, enumerators_from, params_from, desigs_from, init_items_from, init_declrs_from}
use Rattle.tape_ops.specs.declared.op.Op.{Op}
use Rattle.c_tape.specs.declared.todo.Task.{Task}
use Rattle.c_tape.specs.declared.todo.Task.TheVariants as tasks
use Rattle.c_tape.specs.Tape.{assocs_tape, auto_declrs_tape, identifiers_tape, old_contents, old_declarations_tape, old_declrs_tape, tape_in, exprs_tape, arguments, steps_tape, words_tape, unnamed_tape, struct_items_tape, mem_declrs_tape, enumerators_tape, contents, pieces, params_tape, pointer_words_tape, array_words_tape, quals_tape, init_items_tape, indices_tape, rule_of_items, desigs_tape, init_declrs_tape, block_items_tape, stmt_tape, items_tape}

-- what one task puts on the tape
abbrev pub task_tape : Task → List Op
task_tape (tasks.Put op) = op ∷ []
task_tape (tasks.Expr e called aims) = tape_in called aims (expr_of e.now.value)
task_tape (tasks.Exprs es) = exprs_tape (exprs_from es.now)
task_tape (tasks.Arguments es) = arguments (exprs_from es.now)
task_tape (tasks.Steps steps) = steps_tape (desigs_from steps.now)
task_tape (tasks.Words words alone) = words_tape alone (spec_words_from words.now)
task_tape (tasks.Unnamed words) = unnamed_tape (spec_words_from words.now)
task_tape (tasks.StructItems items) = struct_items_tape (struct_items_from items.now)
task_tape (tasks.MemDeclrs ds) = mem_declrs_tape (mem_declrs_from ds.now)
task_tape (tasks.Enumerators es) = enumerators_tape (enumerators_from es.now)
task_tape (tasks.Contents d own) = contents own (declr_of d.now.value)
task_tape (tasks.Pieces d) = pieces (declr_of d.now.value)
task_tape (tasks.Params ps) = params_tape (params_from ps.now)
task_tape (tasks.PointerWords words) = pointer_words_tape words.now
task_tape (tasks.ArrayWords words) = array_words_tape words.now
task_tape (tasks.Quals qs) = quals_tape qs.now
task_tape (tasks.InitItems items) = init_items_tape (init_items_from items.now)
task_tape (tasks.Indices ds) = indices_tape (desigs_from ds.now)
task_tape (tasks.RuleItems items) = rule_of_items (init_items_from items.now)
task_tape (tasks.Desigs ds) = desigs_tape (desigs_from ds.now)
task_tape (tasks.InitDeclrs ds) = init_declrs_tape (init_declrs_from ds.now)
task_tape (tasks.BlockItems items kept) = block_items_tape kept (block_items_from items.now)
task_tape (tasks.Stmt s) = stmt_tape false (stmt_of s.now.value)
task_tape (tasks.Items items) = items_tape items.now
task_tape (tasks.Assocs xs) = assocs_tape (assocs_from xs.now)
task_tape (tasks.AutoDeclrs ds semi) = auto_declrs_tape semi.now (init_declrs_from ds.now)
task_tape (tasks.Identifiers names) = identifiers_tape names.now
task_tape (tasks.OldContents d ds) = old_contents (map declaration_of ds.now) (declr_of d.now.value)
task_tape (tasks.OldDeclarations ds) = old_declarations_tape (map declaration_of ds.now)
task_tape (tasks.OldDeclrs ds) = old_declrs_tape (init_declrs_from ds.now)

-- what tasks put on the tape, of which the last is done first
unfoldable pub pending : List Task → List Op
pending [] = []
pending (task ∷ tasks) = pending tasks ++ task_tape task

-- what the next task puts on the tape, if there is one
abbrev pub next_tape : Option Task → List Op
next_tape None = []
next_tape (Some task) = task_tape task

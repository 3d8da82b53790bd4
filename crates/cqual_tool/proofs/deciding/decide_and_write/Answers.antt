use Rattle.std.proofs.Common.{[], map, string_bytes, subst}
use Rattle.cqual_words.specs.Asked.{task_of}
use Rattle.cqual_tool.specs.Sending.{Sends}
use Rattle.cqual_tool.proofs.Outcomes.{meant, unmeant}
use Rattle.cqual_tool.proofs.Runs.{by_since, ran_no_memory, ran_not, ran_read_fault, ran_sent, ran_usage}
use Rattle.cqual_tool.proofs.deciding.decide_and_write.Goals as goal

-- an answer that is sent whole or in part makes the run of the words, with the readings of its files
pub returns-in-Ok : goal.returns-in-Ok
returns-in-Ok g c =
    let words = map string_bytes c.args.words.now in
    let answer = c.in-Ok.answer in
    let out = g.O.Sink in
    let sends : Sends (out.written c.args.out.now) (out.written c.finish.new.out) (out.failed c.args.out.now)
    (out.failed c.finish.new.out) answer.status answer.text.items c.finish.result =
    subst (λ text. Sends (out.written c.args.out.now) (out.written c.finish.new.out) (out.failed c.args.out.now)
    (out.failed c.finish.new.out) answer.status text c.finish.result) c.deref.ensures.value c.finish.ensures.sent in
    let by = c.in-Ok.ensures.reads in
    by_since words _ _ _ _ _ _ c.finish.result by.0
    (ran_sent words _ _ _ _ _ _ (task_of c.in-Ok-Some.asked)
    (meant words task_of c.in-Ok-Some.field-0 c.in-Ok-Some.asked c.in-Ok-Some.ensures.meaning c.in-Ok-Some.field-0-is)
    answer by.0 c.finish.result by.1 c.in-Ok.ensures.decided sends)

-- a read fault makes a run of this status that wrote nothing
pub returns-in-Err-ReadFault : goal.returns-in-Err-ReadFault
returns-in-Err-ReadFault g c =
    let words = map string_bytes c.args.words.now in
    let by = c.in-Err-ReadFault.ensures.reads in
    by_since words _ _ _ _ _ _ _ by.0
    (ran_read_fault words _ _ _ _ (task_of c.in-Ok-Some.asked)
    (meant words task_of c.in-Ok-Some.field-0 c.in-Ok-Some.asked c.in-Ok-Some.ensures.meaning c.in-Ok-Some.field-0-is)
    by.0 c.in-Err-ReadFault.field-0 c.in-Err-ReadFault.field-0-is by.1)

-- want of memory while the files are read makes a run of this status that wrote nothing
pub returns-in-Ok-Some : goal.returns-in-Ok-Some
returns-in-Ok-Some g c =
    let words = map string_bytes c.args.words.now in
    let by = c.in-Err-NoMemory.ensures.reads in
    by_since words _ _ _ _ _ _ _ by.0
    (ran_no_memory words _ _ _ _ (task_of c.in-Ok-Some.asked)
    (meant words task_of c.in-Ok-Some.field-0 c.in-Ok-Some.asked c.in-Ok-Some.ensures.meaning c.in-Ok-Some.field-0-is)
    by.0 c.in-Err-NoMemory.field-0 c.in-Err-NoMemory.field-0-is by.1)

-- words without a meaning make a run that reads no file and sends the usage line
pub returns-in-Ok-None : goal.returns-in-Ok-None
returns-in-Ok-None g c =
    let words = map string_bytes c.args.words.now in
    by_since words _ _ _ _ _ _ c.finish-in-Ok-None.result []
    (ran_usage words _ _ _ _ _ c.finish-in-Ok-None.result
    (unmeant words task_of c.in-Ok-None.field-0 c.in-Ok-None.ensures.meaning c.in-Ok-None.field-0-is)
    c.finish-in-Ok-None.ensures.sent)

-- want of memory while the words are read makes a run that reads no file and writes nothing
pub returns : goal.returns
returns g c =
    let words = map string_bytes c.args.words.now in
    by_since words _ _ _ _ _ _ _ [] (ran_not words _ _ _)

-- What a reader of the program answers, beside the reader of token lists that it is.
use Rattle.std.specs.Prelude.{◌≡◌, List, Result, Ok, Err}
use Rattle.std.specs.Global.{Vec}
use Rattle.c_reading.specs.Reading.{Found, Refusal, Reader}
use Rattle.reader_base.specs.declared.fault.ReadError.{ReadError}
use Rattle.reader_base.specs.declared.fault.ReadError.TheVariants as errors
use Rattle.reader_base.specs.declared.cursor.Cursor.{Cursor}

-- a reader's failure is the refusal that the reader of lists gives; want of memory may come anywhere
abbrev pub Fails : {Y : Type 0} → ReadError → Result Y Refusal → Type 0
Fails (errors.Fault fault token) read = read ≡ Err (fault, token)
Fails errors.NoMemory read = Unit {0}

-- what a reader answered, seen by a view, is what the reader of lists gives, want of memory aside
abbrev pub Gives : {X Y : Type 0} → (X → Y) → Result X ReadError → Result Y Refusal → Type 0
Gives view (Ok x) read = read ≡ Ok (view x)
Gives view (Err e) read = Fails e read

-- what was read, with a cursor behind it
abbrev pub behind : {A : Type 0} → A → Cursor → Found A
behind a cursor = record { tree = a; scopes = cursor.scopes; rest = cursor.rest.now }

-- a reader of lists answers so at a cursor, and leaves it so
abbrev pub Reads : {X A : Type 0} → (X → A) → Cursor → Cursor → Result X ReadError → Reader A → Type 0
Reads view before after result reader = Gives (λ x. behind (view x) after) result (reader before.scopes before.rest.now)

-- the same of an answer that is seen as it is, as the number of a token
abbrev pub Takes : {A : Type 0} → Cursor → Cursor → Result A ReadError → Reader A → Type 0
Takes before after result reader = Reads (λ x. x) before after result reader

-- the same of a row, which is seen as its items
abbrev pub ReadsRow : {A : Type 0} → Cursor → Cursor → Result (Vec A) ReadError → Reader (List A) → Type 0
ReadsRow before after result reader = Reads (λ row. row.items) before after result reader

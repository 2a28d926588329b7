-- A header and rows that are sent by a counting writer, one after the other.
use Rattle.std.specs.Prelude.{◌≡◌, ◌+◌, ◌*◌, ◌^◌, ◌<◌, ◌≤◌, ◌++◌, ℕ, List, length, Result, Ok, Err, ⊤}
use Rattle.std.specs.List.{range_with_len, flat_map}
use Rattle.std.specs.Global.{Vec}
use Rattle.cut_wires.specs.declared.rows.RowsFault.{RowsFault}
use Rattle.cut_wires.specs.declared.rows.RowsFault.TheVariants.{Write, Row}
use Rattle.cut_wires.specs.Sending.{Sending, Sends, sent_on}

-- the text of the header, that of each row by its place from 0, how many rows there are, and how many bytes the
-- header and a row that is given have at most
pub record Table : Type 0 where
  pub header : List ℕ
  pub row : ℕ → List ℕ
  pub rows : ℕ
  pub longest : ℕ

-- the header and the first n rows, each framed
abbrev pub rows_to : (List ℕ → List ℕ) → Table → ℕ → List ℕ
rows_to framed t n = framed t.header ++ flat_map (λ place. framed (t.row place)) (range_with_len 0 n)

-- the row at a place was given, which leaves what `given` says; or it was not, as `failed` says
abbrev pub Gives : {E : Type 0} → Table → ℕ → Result (Vec ℕ) E → Type 0 → (E → Type 0) → Type 0
Gives t place (Ok text) given failed = (text.items ≡ t.row place) × (length text.items ≤ t.longest) × given
Gives t place (Err e) given failed = failed e

-- the first n rows were given, and all of the table was sent; or a write failed before the last byte of these; or
-- the next row was not given, and these were sent
abbrev pub EndsRows : {E : Type 0} → (List ℕ → List ℕ) → Table → (ℕ → Type 0) → (ℕ → E → Type 0) → ℕ
    → Result ⊤ (RowsFault E) → Sending → Sending → Type 0
EndsRows framed t given failed n (Ok done) old new =
    (n ≡ t.rows) × given n × (new ≡ sent_on old (rows_to framed t n))
EndsRows framed t given failed n (Err (Write fault)) old new = given n × Sends (Err fault) (rows_to framed t n) old new
EndsRows framed t given failed n (Err (Row e)) old new =
    (n < t.rows) × failed n e × (new ≡ sent_on old (rows_to framed t n))

-- the same, and how many rows and bytes these are at most, where encoding adds at most 5 bytes
pub record SendsRows {E : Type 0} (framed : List ℕ → List ℕ) (t : Table) (given : ℕ → Type 0)
    (failed : ℕ → E → Type 0) (result : Result ⊤ (RowsFault E)) (old new : Sending) : Type 0 where
  pub count : ℕ
  pub few : count ≤ t.rows
  pub rows : t.rows < 2 ^ 32
  pub short : length (rows_to framed t count) ≤ (count + 1) * (t.longest + 5)
  pub ends : EndsRows framed t given failed count result old new

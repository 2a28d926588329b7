-- The line that says which file of a join is refused.
use Rattle.std.proofs.Common.{◌≡◌, ◌≤◌, ◌<◌, ◌+◌, ◌-◌, ◌++◌, ◌∷◌, [], ℕ, zero, suc, Bor, List, Option, Some, None}
use Rattle.std.proofs.Common.{Bool, true, false, Result}
use Rattle.std.proofs.Common.{Ok, Err, length, map, get_or, take, refl, sym, ap, subst, arith, ◌∙◌, inl, inr}
use Rattle.std.proofs.Common.{append_assoc, length-append}
use Rattle.std.proofs.Math.Seq.{take-append-add}
use Rattle.std.proofs.lemmas.List.{take-append-le}
use Rattle.std.specs.Bool.{⊤}
use Rattle.std.specs.Fmt.{decimal}
use Rattle.std.specs.Prelude.{codes}
use Rattle.std.specs.List.{flat_map}
use Rattle.std.specs.Str.{chars}
use Rattle.cut_commands.specs.declared.fault.CliFault.{CliFault}
use Rattle.cut_commands.specs.declared.fault.CliFault.TheVariants.{Journal}
use Rattle.cut_machines.specs.JoinCommand.{NamesRefusedFile}
use Rattle.cut_wires.specs.Log.{WireLog, wrote, write_failed}
use Rattle.cut_wires.proofs.Logs.{wrote_more}
use Rattle.cut_jobs.specs.Jobs.{PrintsRefused, file_line}
use Rattle.cut_jobs.specs.Quoted.{quoted, quoted_char}
use Rattle.cut_jobs.specs.inside.Printing.{IsFileAt, WritesWhole, file_end, file_head}
use Rattle.cut_jobs.specs.Sending.{IsCutShort, IsSent}

within : (count place : ℕ) (ended : Result ⊤ CliFault) → NamesRefusedFile count ended (Some place)
    → (1 ≤ place) × (place ≤ count)
within count place (Ok done) named = absurd (let bad : Some place ≡ None = named in cc)
within count place (Err (Journal fault)) named = (named.0, named.1)
within count place (Err fault) named = absurd (let bad : Some place ≡ None = named in cc)

-- the place of a refused file is one of the files'
pub file_within : (count place : ℕ) (ended : Result ⊤ CliFault) (refused : Option ℕ)
    → NamesRefusedFile count ended refused → refused ≡ Some place → (1 ≤ place) × (place ≤ count)
file_within count place ended refused named is =
    within count place ended (subst (λ (r : Option ℕ). NamesRefusedFile count ended r) is named)

-- the file at an index has the place after it
pub file_at : (files : List (Bor (List ℕ))) (i : ℕ) (other : Bor (List ℕ)) → i < length files
    → IsFileAt (map (λ s. s.now) files) (i + 1) (get_or files i other).now
file_at [] i other low = absurd (omega (arith, low))
file_at (file ∷ files) zero other low =
    record { before = []; after = map (λ s. s.now) files; all = refl; place_is = refl }
file_at (file ∷ files) (suc i) other low =
    let rest = file_at files i other (omega (arith, low)) in
    record {
      before = file.now ∷ rest.before;
      after = rest.after;
      all = ap (λ (xs : List (List ℕ)). file.now ∷ xs) rest.all;
      place_is = omega (arith, rest.place_is);
    }

-- and so has the file at a place
file_of_place : (files : List (Bor (List ℕ))) (place : ℕ) (other : Bor (List ℕ)) → 1 ≤ place → place ≤ length files
    → IsFileAt (map (λ s. s.now) files) place (get_or files (place - 1) other).now
file_of_place files place other some few =
    subst (λ (n : ℕ). IsFileAt (map (λ s. s.now) files) n (get_or files (place - 1) other).now)
    (let same : place - 1 + 1 ≡ place = omega (arith, some) in same)
    (file_at files (place - 1) other (omega (arith, some, few)))

-- the line of the file at a place was sent, up to a write that failed
pub prints_at : (files : List (Bor (List ℕ))) (place : ℕ) (other : Bor (List ℕ)) → 1 ≤ place → place ≤ length files
    → (old new : WireLog) → IsSent (file_line place (get_or files (place - 1) other).now) old new
    → PrintsRefused (map (λ s. s.now) files) (Some place) old new
prints_at files place other some few old new sent =
    let at = file_of_place files place other some few in
    (at.before, (get_or files (place - 1) other).now, at.after, at.all, at.place_is, sent)

-- a text is sent in two parts, or only some of the first
pub cut_after : (a b : List ℕ) (sent : ℕ) (old mid new : WireLog) → mid ≡ wrote old a → IsCutShort b sent mid new
    → IsCutShort (a ++ b) (length a + sent) old new
cut_after a b sent old mid new first (low, is) = (
  omega (arith, low, length-append a b),
  is ∙ ap (λ (l : WireLog). write_failed l)
      (wrote_more old mid (wrote mid (take sent b)) a (take sent b) first refl
      ∙ ap (λ (text : List ℕ). wrote old text) (sym (take-append-add a b sent))),
)

pub cut_before : (a b : List ℕ) (sent : ℕ) (old new : WireLog) → IsCutShort a sent old new
    → IsCutShort (a ++ b) sent old new
cut_before a b sent old new (low, is) = (
  omega (arith, low, length-append a b),
  is ∙ ap (λ (text : List ℕ). write_failed (wrote old text)) (sym (take-append-le sent a b (omega (arith, low)))),
)

pub sent_after : (a b : List ℕ) (old mid new : WireLog) → mid ≡ wrote old a → IsSent b mid new → IsSent (a ++ b) old new
sent_after a b old mid new first (inl is) = inl (wrote_more old mid new a b first is)
sent_after a b old mid new first (inr (sent, cut)) = inr (length a + sent, cut_after a b sent old mid new first cut)

pub sent_before : (a b : List ℕ) (sent : ℕ) (old new : WireLog)
    → (new ≡ write_failed (wrote old (take sent a))) × (sent < length a) → IsSent (a ++ b) old new
sent_before a b sent old new (is, low) = inr (sent, cut_before a b sent old new (low, is))

-- the line, in its two parts
pub line_is : (place : ℕ) (path : List ℕ)
    → file_head place ++ (flat_map quoted_char (chars path) ++ file_end) ≡ file_line place path
line_is place path =
    let shown = flat_map quoted_char (chars path) in
    let head = codes "cutlab: file " ++ decimal place in
    append_assoc head (codes ": \"") (shown ++ file_end)
    ∙ sym (append_assoc (head ++ codes ": ") (quoted path) (10 ∷ [])
    ∙ ap (λ (text : List ℕ). head ++ codes ": " ++ text) (append_assoc (codes "\"" ++ shown) (codes "\"") (10 ∷ []))
    ∙ append_assoc head (codes ": ") (codes "\"" ++ shown ++ file_end))

-- a text that was written whole
pub whole_is : (whole : Bool) (text : List ℕ) (old new : WireLog) → WritesWhole whole text old new → whole ≡ true
    → new ≡ wrote old text
whole_is true text old new is whole = is
whole_is false text old new is whole = absurd (let bad : false ≡ true = whole in cc)

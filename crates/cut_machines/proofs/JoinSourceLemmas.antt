-- The slips of several files, one file after another, why they are not joined, and what is left of the files.
use Rattle.std.proofs.Common.{◌≡◌, ◌≢◌, ◌⊎◌, ◌∙◌, ◌+◌, ◌++◌, ◌<◌, ◌≤◌, inl, inr, ℕ, zero, suc, cond, List, [], ◌∷◌}
use Rattle.std.proofs.Common.{Option, Some, None, Ok, Err, Bor, length, map, take, drop, get_or, refl, sym, ap}
use Rattle.std.proofs.Common.{subst, arith, append-nil, append_assoc}
use Rattle.std.specs.Bool.{⊤}
use Rattle.std.specs.Prelude.{option_map}
use Rattle.std.specs.Str.{bytes_eq}
use Rattle.std.proofs.lemmas.List.{get_or-map, length-map, length-take-le, take-append-drop, take_more}
use Rattle.std.proofs.lemmas.List.Sums.{sum_by_push}
use Rattle.std.proofs.lemmas.Slice.Eq.{bytes_eq-Decides}
use Rattle.cut_plan.specs.Values.{Values}
use Rattle.cut_disks.specs.Log.{DiskLog, Knows}
use Rattle.cut_disks.specs.State.{DiskState}
use Rattle.cut_files.specs.Place.{IsOpen, Place, StaysElsewhere}
use Rattle.cut_files.specs.Place as place
use Rattle.cut_files.proofs.Places.{same_path}
use Rattle.cut_ledger.specs.declared.slip.Slip.{Slip}
use Rattle.cut_journal.specs.declared.fault.JournalFault.{JournalFault}
use Rattle.cut_journal.specs.declared.fault.JournalFault.TheVariants as journal
use Rattle.cut_journal.specs.Opening as opening
use Rattle.cut_journal.specs.Reading.{reading}
use Rattle.cut_commands.specs.declared.fault.CliFault.{CliFault}
use Rattle.cut_commands.specs.declared.fault.CliFault.TheVariants.{Memory, Journal, BadSlip}
use Rattle.cut_machines.specs.JoinSources.{AreRead, HaveRunOut, HoldAll, Holds, IsReadUpTo, IsRefused}
use Rattle.cut_machines.specs.JoinSources.{IsRefusedAt, SaysNone, StopsReading, after_refusal, failed_once, read_times}
use Rattle.cut_machines.specs.JoinSources.{synced_times, times_named}
use Rattle.cut_machines.specs.inside.JoinSources.{AddsHeld, HaveBadSlip, IsUnopened, IsUnread, LeavesFile, LeavesRefused}
use Rattle.cut_machines.specs.inside.JoinSources.{NamesFile, StaysOpen, refused_at}

abbrev log_of : Option DiskState → ℕ → DiskLog
log_of state failed = record { state = state; failed = failed }

-- ---- a file that was read has the bytes that it had

bytes_same : (n : ℕ) (d : DiskState) → (synced_times n d).bytes ≡ d.bytes
bytes_same zero d = refl
bytes_same (suc n) d = bytes_same n d

known_first : (n : ℕ) (P : List ℕ → Type 0) (state : Option DiskState) (failed : ℕ)
    → Knows (log_of (option_map (synced_times n) state) failed) (λ d. P d.bytes)
    → Knows (log_of state failed) (λ d. P d.bytes)
known_first n P None failed is = is
known_first n P (Some d) failed is = λ known. subst P (bytes_same n d) (is known)

holds_first : (n : ℕ) (file : Place) (v : Values) (slips : List Slip) → Holds (read_times n file) v slips
    → Holds file v slips
holds_first n (place.Holds log) v slips held =
    known_first n (λ bytes. reading v bytes ≡ Ok slips) log.state log.failed held
holds_first n other v slips held = held

says_first : (n : ℕ) (file : Place) (v : Values) (fault : JournalFault) → SaysNone (read_times n file) v fault
    → SaysNone file v fault
says_first n (place.Holds log) v fault says =
    known_first n (λ bytes. opening.IsReopenFault v bytes fault) log.state log.failed says
says_first n other v fault says = says

-- ---- how often a path is named

named_here : (path : List ℕ) (paths : List (List ℕ)) → times_named path (paths ++ path ∷ []) ≡ suc (times_named path paths)
named_here path paths =
    let more = sum_by_push (λ (p : List ℕ). cond (bytes_eq path p) 1 0) paths path in
    grind (arith, more, bytes_eq-Decides path path)

named_beside : (path other : List ℕ) (paths : List (List ℕ)) → other ≢ path
    → times_named other (paths ++ path ∷ []) ≡ times_named other paths
named_beside path other paths not =
    let more = sum_by_push (λ (p : List ℕ). cond (bytes_eq other p) 1 0) paths path in
    grind (arith, more, bytes_eq-Decides other path)

-- what holds of one path and of each other one holds of all
for_each : (P : List ℕ → Type 0) (path : List ℕ) → P path → ((other : List ℕ) → other ≢ path → P other)
    → (other : List ℕ) → P other
for_each P path here beside other = elim (same_path other path) [
  | inl is ↦ subst P (sym is) here
  | inr not ↦ beside other not
]

-- ---- files that are read in turn

read_again : (n : ℕ) (file : Place) → read_times 1 (read_times n file) ≡ read_times (suc n) file
read_again n (place.Holds log) = elim log.state as (λ state. place.Holds (log_of (option_map (synced_times 1)
    (option_map (synced_times n) state)) log.failed) ≡ place.Holds (log_of (option_map (synced_times (suc n)) state) log.failed)) [
      | None ↦ refl
      | Some d ↦ refl
    ]
read_again n other = refl

open_read : (n : ℕ) (file : Place) → IsOpen file → read_times n file ≡ file
open_read n (place.Holds log) out = absurd out
open_read n other out = refl

open_refused : (fault : JournalFault) (n : ℕ) (file : Place) → IsOpen file
    → after_refusal fault (read_times n file) ≡ file
open_refused journal.Disk n (place.Holds log) out = absurd out
open_refused journal.Disk n other out = refl
open_refused fault n file out = open_read n file out

-- the slips of one more file come after those of the others
hold_one_more : (found : List ℕ → Place) (paths : List (List ℕ)) (path : List ℕ) (v : Values) (slips more : List Slip)
    → HoldAll found paths v slips → Holds (found path) v more → HoldAll found (paths ++ path ∷ []) v (slips ++ more)
hold_one_more found [] path v slips more none held =
    (more, ([], (held, refl, ap (λ xs. xs ++ more) none ∙ sym (append-nil more))))
hold_one_more found (first ∷ paths) path v slips more (some, (others, (is, all, same))) held = (
  some,
  (
    others ++ more,
    (
      is,
      hold_one_more found paths path v others more all held,
      ap (λ xs. xs ++ more) same ∙ append_assoc some others more,
    ),
  ),
)

module _ (found now left : List ℕ → Place) (done : List (List ℕ)) (path : List ℕ) (read : AreRead found now done)
    (elsewhere : StaysElsewhere path now left) where
  beside : (other : List ℕ) → other ≢ path → left other ≡ read_times (times_named other done) (found other)
  beside other not = elsewhere other not ∙ read other

  beside_read : (other : List ℕ) → other ≢ path
      → left other ≡ read_times (times_named other (done ++ path ∷ [])) (found other)
  beside_read other not =
      beside other not ∙ ap (λ n. read_times n (found other)) (sym (named_beside path other done not))

  one_here : read_times 1 (now path) ≡ read_times (times_named path (done ++ path ∷ [])) (found path)
  one_here =
      ap (read_times 1) (read path) ∙ read_again (times_named path done) (found path)
      ∙ ap (λ n. read_times n (found path)) (sym (named_here path done))

  pub read_more : left path ≡ read_times 1 (now path) → AreRead found left (done ++ path ∷ [])
  read_more once =
      for_each (λ p. left p ≡ read_times (times_named p (done ++ path ∷ [])) (found p)) path (once ∙ one_here)
      beside_read

  pub hold_more : (v : Values) (slips new : List Slip) → HoldAll found done v slips → AddsHeld (now path) v slips new
      → HoldAll found (done ++ path ∷ []) v new
  hold_more v slips new held (added, (adds, is)) =
      subst (λ (xs : List Slip). HoldAll found (done ++ path ∷ []) v xs) (sym is)
      (hold_one_more found done path v slips added held (holds_first (times_named path done) (found path) v added
      (subst (λ (f : Place). Holds f v added) (read path) adds)))

  -- ---- the slips of the file whose turn comes are not read

  module _ (paths rest : List (List ℕ)) (all : paths ≡ done ++ path ∷ rest) (v : Values) (slips : List Slip)
      (held : HoldAll found done v slips) where
    refused_next : (fault : JournalFault) (files : List (List ℕ)) → IsRefused (now path) v fault
        → IsReadUpTo fault done path files
        → left path ≡ after_refusal fault (read_times (times_named path files) (found path))
        → ((other : List ℕ) → other ≢ path → left other ≡ read_times (times_named other files) (found other))
        → IsRefusedAt found left paths v fault (length done + 1)
    refused_next fault files refused up_to here others = (
      record {
        before = done;
        path = path;
        after = rest;
        all = all;
        slips = slips;
        held = held;
        refused = record {
          may = refused.may;
          says = says_first (times_named path done) (found path) v fault
              (subst (λ (f : Place). SaysNone f v fault) (read path) refused.says);
        };
        read = files;
        up_to = up_to;
        here = here;
        elsewhere = others;
      },
      refl,
    )

    refused_as : (fault : JournalFault) → IsRefused (now path) v fault → LeavesRefused fault (now path) (left path)
        → IsRefusedAt found left paths v fault (length done + 1)
    refused_as journal.Disk refused (inl early) =
        refused_next journal.Disk done refused (inl refl) (early ∙ ap failed_once (read path)) beside
    refused_as journal.Disk refused (inr whole) =
        refused_next journal.Disk (done ++ path ∷ []) refused (inr refl) (whole ∙ ap failed_once one_here) beside_read
    refused_as fault refused here =
        refused_next fault (done ++ path ∷ []) refused refl (here ∙ one_here) beside_read

    ran_out : (left path ≡ now path) ⊎ (left path ≡ read_times 1 (now path)) → HaveRunOut found left paths
    ran_out (inl same) = record {
      before = done;
      after = path ∷ rest;
      all = all;
      read = for_each (λ p. left p ≡ read_times (times_named p done) (found p)) path (same ∙ read path) beside;
    }
    ran_out (inr once) = record {
      before = done ++ path ∷ [];
      after = rest;
      all = all ∙ sym (append_assoc done (path ∷ []) rest);
      read = read_more once;
    }

    -- why no more slips are read, and which file is refused
    pub unread_next : (fault : CliFault) (refused : Option ℕ) → IsUnopened (now path) v fault
        → LeavesFile {T = ⊤} (Err fault) (now path) (left path) → refused ≡ refused_at (length done + 1) fault
        → IsUnread found left paths v fault × NamesFile found left paths v fault refused
    unread_next Memory refused unopened is named = (ran_out is, named)
    unread_next (Journal fault) refused unopened is named =
        let first = refused_as fault unopened is in (first.0, (length done + 1, (named, first)))
    unread_next fault refused unopened is named = absurd unopened

-- ---- the paths, one after another

abbrev pub paths_of : List (Bor (List ℕ)) → List (List ℕ)
paths_of paths = map (λ (s : Bor (List ℕ)). s.now) paths

pub length_first : (paths : List (Bor (List ℕ))) (i : ℕ) → i < length paths → length (take i (paths_of paths)) ≡ i
length_first paths i low =
    let within : i ≤ length (paths_of paths) = rw length-map (omega arith) in length-take-le i (paths_of paths) within

module _ (paths : List (Bor (List ℕ))) (i : ℕ) (d : Bor (List ℕ)) (low : i < length paths) where
  pub take_next : take (i + 1) (paths_of paths) ≡ take i (paths_of paths) ++ (get_or paths i d).now ∷ []
  take_next =
      let within : i < length (paths_of paths) = rw length-map low in
      take_more (paths_of paths) i d.now within ∙ ap (λ p. take i (paths_of paths) ++ p ∷ [])
      (get_or-map (λ (s : Bor (List ℕ)). s.now) paths i d d.now low)

  pub split_at : paths_of paths ≡ take i (paths_of paths) ++ (get_or paths i d).now ∷ drop (i + 1) (paths_of paths)
  split_at =
      sym (take-append-drop (i + 1) (paths_of paths)) ∙ ap (λ ps. ps ++ drop (i + 1) (paths_of paths)) take_next
      ∙ append_assoc (take i (paths_of paths)) ((get_or paths i d).now ∷ []) (drop (i + 1) (paths_of paths))

-- ---- what is open stays open

pub open_where_unread : (found left : List ℕ → Place) (paths : List (List ℕ)) (v : Values) (fault : CliFault)
    → IsUnread found left paths v fault → StaysOpen found left
open_where_unread found left paths v Memory out = λ path is.
    out.read path ∙ open_read (times_named path out.before) (found path) is
open_where_unread found left paths v (Journal fault) first =
    for_each (λ p. IsOpen (found p) → left p ≡ found p) first.path
    (λ out. first.here ∙ open_refused fault (times_named first.path first.read) (found first.path) out)
    (λ other not out. first.elsewhere other not ∙ open_read (times_named other first.read) (found other) out)
open_where_unread found left paths v fault unread = absurd unread

-- ---- slips that were read are judged

pub judged_stops : (found left : List ℕ → Place) (paths : List (List ℕ)) (v : Values) (slips : List Slip)
    (fault : CliFault) → HoldAll found paths v slips → AreRead found left paths → HaveBadSlip v slips fault
    → StopsReading found left paths v fault
judged_stops found left paths v slips Memory held read bad =
    record { before = paths; after = []; all = sym (append-nil paths); read = read }
judged_stops found left paths v slips (BadSlip n) held read bad =
    record { slips = slips; held = held; bad = bad; read = read }
judged_stops found left paths v slips fault held read bad = absurd bad

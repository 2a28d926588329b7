-- The slips of pieces, and what is appended of the tasks that run them.
use Rattle.std.proofs.Common.{◌≡◌, ◌<◌, ◌+◌, ◌++◌, ℕ, List, [], ◌∷◌, Some, refl, sym, ap, length, get_or, take, drop}
use Rattle.std.proofs.Common.{take-append-drop}
use Rattle.std.proofs.lemmas.List.{map-append, take_more}
use Rattle.std.proofs.lemmas.List.Elements.{All-map, filter-append}
use Rattle.cut_lists.proofs.Intervals.{within_is}
use Rattle.cut_lists.proofs.Ranges.{All-range_with_len}
use Rattle.cut_ledger.specs.Machine.{slip_of}
use Rattle.cut_shares.proofs.Words.{All, Computed, IsRun, IsSharePiece, IsShareSlip, IsTrue, Piece, PieceTask, Share}
use Rattle.cut_shares.proofs.Words.{Slip, Values, done_of, is_in_share, pieces_of_slips, slip_at, slips_at}

-- ---- the slips of pieces

pub pieces_back : (v : Values) (ps : List Piece) → pieces_of_slips (slips_at v ps) ≡ ps
pieces_back v [] = refl
pieces_back v (p ∷ ps) = ap (λ (l : List Piece). p ∷ l) (pieces_back v ps)

-- the slips of pieces of the share are its slips
pub share_slips : (s : Share) (v : Values) (ps : List Piece) → All (IsSharePiece s v) ps
    → All (IsShareSlip s v) (slips_at v ps)
share_slips s v ps own = All-map (IsShareSlip s v) (slip_at v) ps (λ k d low.
    (let p : Piece = get_or ps k d in
    let is = own k d low in
    record {
      true = record { piece = is.piece; totals = refl };
      own = All-range_with_len (λ t. IsTrue (is_in_share s v t)) p.first p.count
          (λ t from below. is.own t (within_is p.first (p.first + p.count) t from below));
    }))

-- ---- tasks

-- the slips of those that have a result
abbrev pub slips_of : Values → List PieceTask → List Slip
slips_of v tasks = slips_at v (done_of tasks)

-- the slip of a task with a result is that of the result
pub done_one : (v : Values) (task : PieceTask) (r : Computed) → task.result ≡ Some r → IsRun v task
    → slips_of v (task ∷ []) ≡ slip_of r ∷ []
done_one v task r some run = rw some (ap (λ (x : Computed). slip_of x ∷ []) (sym (rw some at run)))

slips-append : (v : Values) (xs ys : List PieceTask) → slips_of v (xs ++ ys) ≡ slips_of v xs ++ slips_of v ys
slips-append v xs ys = simp (filter-append, map-append)

-- of tasks one after another: those before, this one, and those after it
module _ (v w : Values) (plan : w ≡ v) (tasks : List PieceTask) (i : ℕ) (task : PieceTask) (low : i < length tasks)
    (is : task ≡ get_or tasks i task) where
  pub slips_more : slips_of v (take i tasks) ++ slips_of w (task ∷ []) ≡ slips_of v (take (i + 1) tasks)
  slips_more = rw plan (cc (take_more tasks i task low, slips-append v (take i tasks) (task ∷ [])))

  pub slips_split : slips_of v tasks
      ≡ (slips_of v (take i tasks) ++ slips_of w (task ∷ [])) ++ slips_of v (drop (i + 1) tasks)
  slips_split =
      cc (take-append-drop (i + 1) tasks, slips-append v (take (i + 1) tasks) (drop (i + 1) tasks), slips_more)

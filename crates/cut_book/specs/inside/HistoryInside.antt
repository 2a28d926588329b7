-- What of a `History` contracts see, and what is always true of it.
use Rattle.std.specs.Prelude.{◌≡◌, ℕ, ◌-◌, ◌≤◌, List, [], ◌∷◌, ◌++◌, map, take, drop, length, nat_lt, vec_len}
use Rattle.std.specs.Prelude.{vec_capacity}
use Rattle.std.specs.List.{sum_by}
use Rattle.cut_plan.specs.Plan.{IsPlan}
use Rattle.cut_book.specs.declared.call.Call.{Call}
use Rattle.cut_book.specs.declared.call.Call.TheVariants.{Lose}
use Rattle.cut_book.specs.declared.history.Entry.{Entry}
use Rattle.cut_book.specs.declared.history.History.TheInside.{Inside}
use Rattle.cut_book.specs.History.{HistoryValue, IsLegalHistory, accepted_slip}

abbrev pub lost_call : ℕ → Call
lost_call piece = Lose piece

-- the calls of entries, with the losses from number n on, each at its place
abbrev pub calls_from : ℕ → List Entry → List ℕ → List Call
calls_from n [] losses = map lost_call (drop n losses)
calls_from n (e ∷ es) losses =
    map lost_call (take (e.losses - n) (drop n losses)) ++ e.call ∷ calls_from e.losses es losses

-- before no entry come fewer losses than before an earlier one, or more than there are
abbrev pub AreInOrder : ℕ → List Entry → ℕ → Type 0
AreInOrder n [] all = n ≤ all
AreInOrder n (e ∷ es) all = (n ≤ e.losses) × AreInOrder e.losses es all

abbrev pub course_of : Inside → HistoryValue
course_of h = record {
  opening = record {
    plan = h.plan.value;
    has_journal = h.has_journal.value;
    base = h.base.value;
    size = h.size.value;
  };
  calls = calls_from 0 h.entries.items h.losses.items;
  room = vec_capacity h.losses - vec_len h.losses;
  has_place = nat_lt (vec_len h.entries) (vec_capacity h.entries);
}

-- it is legal, of an accepted plan
pub record IsHistory (h : Inside) : Type 0 where
  pub plan : IsPlan (course_of h).opening.plan
  pub legal : IsLegalHistory (course_of h).opening (course_of h).calls
  pub order : AreInOrder 0 h.entries.items (length h.losses.items)

-- how many trials a call added to a ledger
abbrev pub count_in : Call → ℕ
count_in call = sum_by (λ slip. slip.piece.count) (accepted_slip call)

-- and the calls of entries together
abbrev pub entries_count : List Entry → ℕ
entries_count es = sum_by (λ e. count_in e.call) es

-- a history after room was made for a call: the same
pub record IsReserved (old new : HistoryValue) : Type 0 where
  pub opening : new.opening ≡ old.opening
  pub calls : new.calls ≡ old.calls
  pub room : new.room ≡ old.room

-- a history after a call: its opening is the same, and the call is its last
pub record Noted (call : Call) (old new : HistoryValue) : Type 0 where
  pub opening : new.opening ≡ old.opening
  pub calls : new.calls ≡ old.calls ++ call ∷ []

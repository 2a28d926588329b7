-- Calls and losses that are kept apart, in the order in which they came.
use Rattle.std.proofs.Common.{◌≡◌, ◌∙◌, ℕ, ◌+◌, ◌*◌, ◌-◌, ◌≤◌, ◌<◌, List, [], ◌∷◌, ◌++◌, map, drop, length}
use Rattle.std.proofs.Common.{get_or, refl, arith, append_assoc, append-nil, length-append}
use Rattle.std.proofs.lemmas.List.{map-append, take_all, drop_all, drop_more, drop-append-le, take-append-le}
use Rattle.std.proofs.lemmas.List.{length-drop, length-take, length-map}
use Rattle.std.proofs.lemmas.List.Sums.{sum_by-cons}
use Rattle.cut_plan.specs.Cells.{trial_count}
use Rattle.cut_ledger.specs.Laws.{SamePlansAreEqual}
use Rattle.cut_book.specs.declared.call.Call.{Call}
use Rattle.cut_book.specs.declared.history.Entry.{Entry}
use Rattle.cut_book.specs.History.{accepted_in}
use Rattle.cut_book.specs.declared.history.History.TheInside.{Inside}
use Rattle.cut_book.specs.inside.HistoryInside.{AreInOrder, IsHistory, calls_from, count_in, course_of}
use Rattle.cut_book.specs.inside.HistoryInside.{entries_count, lost_call}
use Rattle.cut_book.proofs.Sums.{accepted_within, first_in}

pub within : (n all : ℕ) (es : List Entry) → AreInOrder n es all → n ≤ all
within n all [] order = order
within n all (e ∷ es) order = let here = order.0 in let rest = within e.losses all es order.1
    in omega (arith, here, rest)

-- ---- one loss more

pub order_of_one_loss_more : (n all : ℕ) (es : List Entry) → AreInOrder n es all → AreInOrder n es (all + 1)
order_of_one_loss_more n all [] order = omega (arith, order)
order_of_one_loss_more n all (e ∷ es) order = (order.0, order_of_one_loss_more e.losses all es order.1)

pub one_loss_more : (n : ℕ) (es : List Entry) (losses : List ℕ) (piece : ℕ) → AreInOrder n es (length losses)
    → calls_from n es (losses ++ piece ∷ []) ≡ calls_from n es losses ++ lost_call piece ∷ []
one_loss_more n [] losses piece order =
    rw (drop-append-le n losses (piece ∷ []) order) (map-append lost_call (drop n losses) (piece ∷ []))
one_loss_more n (e ∷ es) losses piece order =
    let most = within e.losses (length losses) es order.1 in
    let rest = one_loss_more e.losses es losses piece order.1 in
    grind (arith, append_assoc, drop-append-le, take-append-le, length-drop, rest)

-- ---- one entry more

pub order_of_one_entry_more : (n all : ℕ) (es : List Entry) (call : Call) → AreInOrder n es all
    → AreInOrder n (es ++ record { call = call; losses = all } ∷ []) all
order_of_one_entry_more n all [] call order = (order, omega arith)
order_of_one_entry_more n all (e ∷ es) call order = (order.0, order_of_one_entry_more e.losses all es call order.1)

pub one_entry_more : (n : ℕ) (es : List Entry) (losses : List ℕ) (call : Call) → AreInOrder n es (length losses)
    → calls_from n (es ++ record { call = call; losses = length losses } ∷ []) losses ≡ calls_from n es losses ++ call
    ∷ []
one_entry_more n [] losses call order =
    grind (arith, take_all, length-drop, drop_all)
one_entry_more n (e ∷ es) losses call order =
    grind (arith, append_assoc, one_entry_more e.losses es losses call order.1)

-- ---- how many

pub long : (n : ℕ) (es : List Entry) (losses : List ℕ) → AreInOrder n es (length losses)
    → length (calls_from n es losses) ≡ length es + (length losses - n)
long n [] losses order = length-map (drop n losses) lost_call ∙ length-drop n losses ∙ omega arith
long n (e ∷ es) losses order =
    grind (arith, length-append, length-map, length-take, length-drop, long e.losses es losses order.1)

-- ---- what is accepted

none_accepted : (losses : List ℕ) (calls : List Call) → accepted_in (map lost_call losses ++ calls) ≡ accepted_in calls
none_accepted [] calls = refl
none_accepted (piece ∷ losses) calls = none_accepted losses calls

others_accept : (n : ℕ) (es : List Entry) (losses : List ℕ) → accepted_in (calls_from n es losses) ≡ entries_count es
others_accept n [] losses = rw (← append-nil (map lost_call (drop n losses))) (none_accepted (drop n losses) [])
others_accept n (e ∷ es) losses =
    let first = sum_by-cons (λ (e : Entry). count_in e.call) e es in
    grind (arith, none_accepted, first_in, others_accept e.losses es losses, first)

-- the accepted trials of a history are those of its entries, and no more than its plan has, which have 64 bits
pub record IsCounted (h : Inside) : Type 0 where
  pub value : accepted_in (course_of h).calls ≡ entries_count h.entries.items
  pub few : accepted_in (course_of h).calls ≤ trial_count (course_of h).opening.plan
  pub fits : trial_count (course_of h).opening.plan ≤ 4096 * 1000000

pub counted : SamePlansAreEqual → (h : Inside) → IsHistory h → IsCounted h
counted equal h is = record {
  value = others_accept 0 h.entries.items h.losses.items;
  few = accepted_within equal (course_of h).opening (course_of h).calls is.plan is.legal;
  fits = (let plan = is.plan in grind arith);
}

-- ---- one entry after another

-- where the losses before an entry are
pub record Bounds (n all : ℕ) (e : Entry) (es : List Entry) : Type 0 where
  pub from : n ≤ e.losses
  pub most : e.losses ≤ all
  pub rest : AreInOrder e.losses es all

pub bounds_at : (n all : ℕ) (es : List Entry) (i : ℕ) (d : Entry) → i < length es → AreInOrder n (drop i es) all
    → Bounds n all (get_or es i d) (drop (i + 1) es)
bounds_at n all es i d low order = grind (arith, drop_more, within)

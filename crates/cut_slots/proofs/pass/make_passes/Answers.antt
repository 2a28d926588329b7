use Rattle.std.proofs.Common.{◌≡◌, ◌+◌, ◌++◌, List, [], ◌∷◌, All, Some, length, sym, ap, subst, arith, length-append}
use Rattle.std.proofs.Common.{◌∙◌}
use Rattle.std.proofs.lemmas.List.Elements.{All-pop, All-push}
use Rattle.cut_board.specs.declared.seat.Seat.{Seat}
use Rattle.cut_board.specs.Names.{board_id, board_of, view_of}
use Rattle.cut_board.specs.Views.{idle}
use Rattle.cut_slots.specs.Pass.{Holding}
use Rattle.cut_slots.proofs.pass.make_passes.Goals as goal

one_longer : {A : Type 0} (xs now : List A) (x : A) → now ≡ xs ++ x ∷ [] → length now ≡ length xs + 1
one_longer xs now x is = ap length is ∙ length-append xs (x ∷ [])

still_all : (P : Holding → Type 0) (passes now : List Holding) (pass : Holding) → now ≡ passes ++ pass ∷ []
    → All P passes → P pass → All P now
still_all P passes now pass is all this = subst (All P) (sym is) (All-push P passes pass all this)

pub loop-seat-preserved : goal.loop-seat-preserved
loop-seat-preserved g c =
    let id = board_id c.args.board.now in
    let seat : Seat = c.in-Some.seat in
    let seats : List Seat = c.loop-seat.seats.items in
    let left : List Seat = c.pop.new.self.items in
    let passes : List Holding = c.loop-seat.passes.items in
    let now : List Holding = c.push.new.self.items in
    let pass : Holding = record { hall = board_of seat; view = view_of seat; made = c.split_off-made.result.amount } in
    let own = All-pop (λ (s : Seat). board_of s ≡ id) seats left (Some seat) c.in-Some.ensures.items
    c.loop-seat.invariant.seats_own in
    let unused = All-pop (λ (s : Seat). view_of s ≡ idle 1) seats left (Some seat) c.in-Some.ensures.items
    c.loop-seat.invariant.seats_idle in
    let shorter = one_longer left seats seat c.in-Some.ensures.items in
    let longer = one_longer passes now pass c.in_ok-push.ensures.items in
    record {
      parts = omega (arith, c.split_off-made.ensures.parts_left, c.loop-seat.invariant.parts, shorter);
      none = omega (arith, c.split_off-made.ensures.amount_left, c.loop-seat.invariant.none);
      many = omega (arith, c.loop-seat.invariant.many, shorter, longer);
      seats_own = own.0;
      seats_idle = unused.0;
      own = still_all (λ p. p.hall ≡ id) passes now pass c.in_ok-push.ensures.items c.loop-seat.invariant.own own.1;
      idle = still_all (λ p. (p.view ≡ idle 1) × (p.made ≡ 0)) passes now pass c.in_ok-push.ensures.items
          c.loop-seat.invariant.idle (unused.1, c.split_off-made.ensures.amount);
    }

use Rattle.std.proofs.Common.{◌≡◌, ◌∙◌, ◌<◌, ◌≤◌, Bor, List, Option, Some, length, map, refl, sym, ap, codes, arith}
use Rattle.std.proofs.lemmas.List.{length-map}
use Rattle.std.specs.Option.{option_map_or}
use Rattle.clap.specs.Words.{Row, Text, all_of, found_of, rows_of}
use Rattle.clap.proofs.WalkLemmas.{first_value-rows, raw_values-rows}
use Rattle.cut_command_line.proofs.Commands.{values}
use Rattle.cut_command_line.proofs.machines.join_job.Goals as goal

-- more files than are joined are not few
too_many : (rows : List Row) (files : List (Bor Text)) → all_of (codes "old") rows ≡ Some (map (λ s. s.now) files)
    → 1000 < length files → (paths : List Text) → all_of (codes "old") rows ≡ Some paths → length paths ≤ 1000 → ⊥
too_many rows files has many paths is few =
    let same : length (map (λ s. s.now) files) ≡ length paths =
    ap (λ (found : Option (List Text)). option_map_or (λ texts. length texts) found 0) (sym has ∙ is) in
    omega (arith, many, few, same, length-map files (λ s. s.now))

pub returns-in_default-clause-gives : goal.returns-in_default-clause-gives
returns-in_default-clause-gives c = λ job gives.
    let found = (values (codes "join") (rows_of (found_of c.args.given.now)) job gives).0 in
    let none = sym (first_value-rows (found_of c.args.given.now) (codes "new")) ∙ sym c.in_default.ensures in
    (let bad = sym none ∙ found.1 in cc)

pub returns-in_default-get_strs-clause-gives : goal.returns-in_default-get_strs-clause-gives
returns-in_default-get_strs-clause-gives c = λ job gives.
    let found = (values (codes "join") (rows_of (found_of c.args.given.now)) job gives).1 in
    let none = sym (raw_values-rows (found_of c.args.given.now) (codes "old")) ∙ sym c.in_default-get_strs.ensures in
    (let bad = sym none ∙ found.1.0 in cc)

pub returns-then-old-gt-MOST_CHECKPOINTS-clause-gives : goal.returns-then-old-gt-MOST_CHECKPOINTS-clause-gives
returns-then-old-gt-MOST_CHECKPOINTS-clause-gives c = λ job gives.
    let found = (values (codes "join") (rows_of (found_of c.args.given.now)) job gives).1 in
    let has = sym (raw_values-rows (found_of c.args.given.now) (codes "old")) ∙ sym c.in-Some-get_strs.ensures in
    too_many (rows_of (found_of c.args.given.now)) c.in-Some-get_strs.old.now has c.if-old-gt-MOST_CHECKPOINTS.true found.0
    found.1.0 found.1.1

pub returns-clause-gives : goal.returns-clause-gives
returns-clause-gives c =
    let found = found_of c.args.given.now in (
      refl,
      sym (first_value-rows found (codes "new")) ∙ sym c.in-Some.ensures,
      sym (raw_values-rows found (codes "old")) ∙ sym c.in-Some-get_strs.ensures
          ∙ ap (λ (texts : List (Bor Text)). Some (map (λ s. s.now) texts)) (sym c.in_ok-old.ensures.items),
      omega (arith, c.if-old-gt-MOST_CHECKPOINTS.false, ap (λ (files : List (Bor Text)). length files) c.in_ok-old.ensures.items),
      c.flag_given.ensures,
      c.plan_given.ensures,
    )

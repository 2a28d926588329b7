use Rattle.std.proofs.Common.{◌≡◌, ◌≤◌, ℕ, arith, length, ap}
use Rattle.std.proofs.lemmas.Bool.Decides.{nat_tests}
use Rattle.std.proofs.lemmas.Str.{length-encode}
use Rattle.std.specs.Char.{len_utf8}
use Rattle.cut_jobs.proofs.quoted.quoted_char.Goals as goal

few : (c : ℕ) → len_utf8 c ≤ 4
few c = grind (arith, nat_tests)

pub push-requires : goal.push-requires
push-requires c =
    let none : length c.new-text.result.bytes ≡ 0 = ap length c.new-text.ensures in
    let bytes = length-encode c.args.c in
    let most = few c.args.c in
    omega (arith, none, bytes, most)

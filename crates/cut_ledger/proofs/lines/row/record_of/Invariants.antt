use Rattle.std.proofs.Common.{◌≡◌, [], take, map}
use Rattle.std.specs.Fmt.{decimal}
use Rattle.csv.specs.Records.{fields_of, partial_of}
use Rattle.cut_ledger.proofs.lines.row.record_of.Given as goal

abbrev pub invariant-loop-number : goal.invariant-loop-number
invariant-loop-number l = record {
  fields : fields_of l.record ≡ map decimal (take l.number-index l.numbers);
  partial : partial_of l.record ≡ [];
}

-- Lines that are printed one after the other.
use Rattle.std.proofs.Common.{◌≡◌, ◌∙◌, ◌++◌, ◌≤◌, ◌-◌, List, [], ◌∷◌, ℕ, sym, ap, inl, inr, arith, length, All, refl, subst, rules}
use Rattle.std.proofs.Common.{append-nil}
use Rattle.std.specs.List.{flat_map}
use Rattle.std.proofs.lemmas.List.Concat.{flat_map-append}
use Rattle.std.proofs.lemmas.List.Elements.{All-push, All-get_or, All-weaker}
use Rattle.std.proofs.lemmas.List.Sorted.{IsNonDecreasingBy-push, IsNonDecreasingBy-short}
use Rattle.cut_wires.specs.Log.{WireLog, wrote}
use Rattle.cut_progress.specs.declared.progress_line.ProgressLine.{ProgressLine}
use Rattle.cut_progress.specs.Lines.{line_text}
use Rattle.cut_progress.specs.declared.counts.Counts.{Counts}
use Rattle.cut_progress.specs.inside.Counts.{line_of}
use Rattle.cut_progress.specs.Printed.{AreOfStudy, HasPrinted, IsCutOff, with_lines}
use Rattle.cut_wires.proofs.Logs.{wrote_twice}

-- every line was written whole, and none says that more trials are held than these
pub record AreWhole (all held : ℕ) (old new : WireLog) : Type 0 where
  pub lines : List ProgressLine
  pub study : AreOfStudy all lines
  pub below : All (λ (line : ProgressLine). line.held ≤ held) lines
  pub log : new ≡ with_lines lines old

-- no line is of a study
pub none_of : (all : ℕ) → 1 ≤ all → AreOfStudy all []
none_of all some = record {
  some = some;
  each = search rules;
  rising = IsNonDecreasingBy-short (λ (line : ProgressLine). line.held) [] (omega arith);
}

-- one line more
pub more_of : (all held : ℕ) (lines : List ProgressLine) (line : ProgressLine) → AreOfStudy all lines
    → All (λ (l : ProgressLine). l.held ≤ held) lines → line.all ≡ all
    → held ≤ line.held → line.held ≤ all → AreOfStudy all (lines ++ line ∷ [])
more_of all held lines line study below same risen within = record {
  some = study.some;
  each = All-push (λ (l : ProgressLine). (l.all ≡ all) × (l.held ≤ all)) lines line study.each (same, within);
  rising = IsNonDecreasingBy-push (λ (l : ProgressLine). l.held) lines line study.rising
      (λ d some. omega (arith, All-get_or (λ (l : ProgressLine). l.held ≤ held) lines (length lines - 1) d (omega (arith, some)) below, risen));
}

-- the text of one line more
more_text : (lines : List ProgressLine) (line : ProgressLine)
    → flat_map line_text lines ++ line_text line ≡ flat_map line_text (lines ++ line ∷ [])
more_text lines line =
    sym (flat_map-append line_text lines (line ∷ [])
    ∙ ap (λ (xs : List ℕ). flat_map line_text lines ++ xs) (append-nil (line_text line)))

-- lines that were written, and one more, by the counts before it and then
module _ (before now : Counts) (seconds : ℕ) (line : ProgressLine) (old mid new : WireLog)
    (whole : AreWhole before.all before.held old mid) (same : now.all ≡ before.all) (risen : before.held ≤ now.held)
    (is : line ≡ line_of now seconds) where
  more : AreOfStudy now.all (whole.lines ++ line ∷ [])
  more =
      rw (same, is)
      (more_of before.all before.held whole.lines (line_of now seconds) whole.study whole.below same risen
      (omega (arith, same, now.within)))

  pub one_more : new ≡ wrote mid (line_text line) → AreWhole now.all now.held old new
  one_more sent = record {
    lines = whole.lines ++ line ∷ [];
    study = more;
    below = All-push (λ (l : ProgressLine). l.held ≤ now.held) whole.lines line
        (All-weaker (λ (l : ProgressLine). l.held ≤ before.held) (λ (l : ProgressLine). l.held ≤ now.held)
        (λ l low. omega (arith, low, risen)) whole.lines whole.below)
        (omega (arith, ap (λ (l : ProgressLine). l.held) is));
    log = sent
        ∙ ap (λ (l : WireLog). wrote l (line_text line)) whole.log
        ∙ wrote_twice old (flat_map line_text whole.lines) (line_text line)
        ∙ ap (λ (xs : List ℕ). wrote old xs) (more_text whole.lines line);
  }

  pub last_cut_off : IsCutOff line mid new → HasPrinted old new
  last_cut_off cut =
      let off : IsCutOff line (with_lines whole.lines old) new =
      subst (λ (log : WireLog). IsCutOff line log new) whole.log cut in
      (now.all, whole.lines ++ line ∷ [], more, inr (whole.lines, line, refl, off))

-- none was written yet
pub begun : (all held : ℕ) (log : WireLog) → 1 ≤ all → AreWhole all held log log
begun all held log some = record { lines = []; study = none_of all some; below = search rules; log = search rules }

-- so all were printed
pub all_printed : (all held : ℕ) (old new : WireLog) → AreWhole all held old new → HasPrinted old new
all_printed all held old new whole = (all, whole.lines, whole.study, inl whole.log)

-- and nothing was where no study has begun
pub none_printed : (log : WireLog) → HasPrinted log log
none_printed log = all_printed 1 0 log log (begun 1 0 log (omega arith))

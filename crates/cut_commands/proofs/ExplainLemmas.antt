-- How `explain` ends, by its parts.
use Rattle.std.proofs.Common.{◌≡◌, ◌∙◌, ◌++◌, ◌≤◌, ℕ, false, List, [], Option, Some, None, Ok, Err, length, take, refl, sym, ap, inl, inr}
use Rattle.std.proofs.Common.{Result, arith}
use Rattle.std.specs.Bool.{⊤}
use Rattle.cut_explain.specs.FirstLine.{first_line}
use Rattle.std.proofs.lemmas.List.{length-append}
use Rattle.cut_plan.specs.Accepted.{plan_of}
use Rattle.cut_plan.specs.Values.{Values}
use Rattle.cut_plan.specs.declared.refusal.Refusal.{Refusal}
use Rattle.cut_wires.specs.Log.{WireLog, wrote, read_failed, write_failed}
use Rattle.cut_commands.specs.Explain.{Explains, IsExplanation}
use Rattle.cut_files.specs.Place.{Place}
use Rattle.cut_commands.specs.Run.{EndsFrom, EndsWith, GivesText, GivesTextFrom, IsWritten, read_on}
use Rattle.cut_commands.proofs.Sources.{ends_text, text_short}
use Rattle.cut_commands.specs.declared.fault.CliFault.{CliFault}
use Rattle.cut_commands.specs.declared.fault.CliFault.TheVariants.{Memory, Plan, Read, Write}
use Rattle.cut_commands.specs.inside.Explain.{IsWrittenAfter}
use Rattle.cut_commands.proofs.Logs.{read_none}
use Rattle.cut_wires.proofs.Logs.{wrote_none, wrote_more}
use Rattle.std.proofs.Transfers.{starts_with_of_append, starts_with_trans}
use Rattle.std.proofs.Math.Seq.{take-append-add}

-- no text was read
pub ends_unread_text : (fault : CliFault) (old new : WireLog) → GivesText 65537 (Err fault) old new
    → EndsWith Explains old new (Err fault)
ends_unread_text Memory old new is = record {
  text = [];
  ended = false;
  written = [];
  log = is ∙ read_none old ∙ sym (wrote_none (read_on [] false old));
  answers = (inl (refl, refl), refl);
}
ends_unread_text Read old new is = record {
  text = is.0;
  ended = false;
  written = [];
  log = is.2 ∙ ap (λ (l : WireLog). read_failed l) (sym (wrote_none (read_on is.0 false old)));
  answers = ((is.1, refl), refl);
}
ends_unread_text fault old new is = absurd is

-- or none from a file
pub ends_no_text : (source : Option Place) (fault : CliFault) (old new : WireLog) → GivesTextFrom source (Err fault) old new
    → EndsFrom Explains source old new (Err fault)
ends_no_text None fault old new given = ends_unread_text fault old new given
ends_no_text (Some place) fault old new given = inr given

-- ---- a text was read

module _ (source : Option Place) (text : List ℕ) (old mid : WireLog) (given : GivesTextFrom source (Ok text) old mid) where
  short : length text ≤ 65537
  short = text_short source text old mid given

  -- and memory ran out
  pub ends_without_memory : EndsFrom Explains source old mid (Err Memory)
  ends_without_memory =
      ends_text Explains source text (Err Memory) [] old mid mid given (sym (wrote_none mid)) (inr (short, refl), refl)

  module _ (whole : List ℕ) (explains : IsExplanation text whole) (new : WireLog) where
    -- or a write failed
    pub ends_unwritten : (fault : CliFault) → IsWritten whole (Err fault) mid new
        → EndsFrom Explains source old new (Err fault)
    ends_unwritten (Write fault) is =
        ends_text Explains source text (Err (Write fault)) (take fault.sent whole) old mid new given is.1
        ((short, refl), (whole, explains, refl, is.0))
    ends_unwritten fault is = absurd is

    -- or all was written
    pub ends_refused : (refusal : Refusal) → plan_of text ≡ Err refusal → IsWritten whole (Ok tt) mid new
        → EndsFrom Explains source old new (Err (Plan refusal))
    ends_refused refusal refuses is =
        ends_text Explains source text (Err (Plan refusal)) whole old mid new given is ((short, refl), refuses, explains)

    -- or all of it, and bytes after it
    module _ (v : Values) (accepts : plan_of text ≡ Ok v) (first : WireLog) (wrote_first : IsWritten whole (Ok tt) mid first) where
      longer : (line : List ℕ) → IsExplanation text (whole ++ line)
      longer line =
          starts_with_trans (whole ++ line) whole (first_line (plan_of text)) (starts_with_of_append (whole ++ line) whole line refl)
          explains

      joined : (last : WireLog) (bytes : List ℕ) → last ≡ wrote first bytes → last ≡ wrote mid (whole ++ bytes)
      joined last bytes is = wrote_more mid first last whole bytes wrote_first is

      pub ends_estimated : (result : Result ⊤ CliFault) → IsWrittenAfter whole result first new
          → EndsFrom Explains source old new result
      ends_estimated (Ok done) is =
          ends_text Explains source text (Ok done) (whole ++ is.0) old mid new given (joined new is.0 is.1)
          ((short, refl), (v, accepts), longer is.0)
      ends_estimated (Err (Write fault)) is =
          let line : List ℕ = is.0 in
          let n : ℕ = is.1 in
          let bytes : take fault.sent (whole ++ line) ≡ whole ++ take n line =
          ap (λ (m : ℕ). take m (whole ++ line)) is.2 ∙ take-append-add whole line n in
          ends_text Explains source text (Err (Write fault)) (take fault.sent (whole ++ line)) old mid new given
          (is.4 ∙ ap (λ (l : WireLog). write_failed l)
          (joined (wrote first (take n line)) (take n line) refl ∙ ap (λ (b : List ℕ). wrote mid b) (sym bytes)))
          ((short, refl), (whole ++ line, longer line, refl, omega (arith, is.2, is.3, length-append whole line)))
      ends_estimated (Err fault) is = absurd is

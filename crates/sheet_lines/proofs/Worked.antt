-- Worked lines.
-- Assumes nothing.
use mathlib.Core.Path.{◌≡◌, refl}
use mathlib.Core.Bool.{true}
use Prim.Native.Nat.{ℕ}
use Rattle.base.specs.declared.Edition.TheVariants.{Flown, Corrected}
use Rattle.text.specs.Text.{ascii, decimal_of}
use Rattle.text.specs.Forms.{form_of}
use Rattle.source.specs.declared.Lane.{Lane}
use Rattle.source.specs.declared.Source.{Source}
use Rattle.source.specs.Records.{silent_lane}
use Rattle.sheet_lines.specs.Lines.{lane_text, source_opening, source_line, refused_frames}

abbrev lane : ℕ → ℕ → ℕ → ℕ → ℕ → Lane
lane frames repaired missed repeats last = record { frames = frames; repaired = repaired; missed = missed; repeats = repeats; heard = true; last = last }

abbrev pub both : Source
both = record { caller = lane 8 3 2 0 14; responder = lane 4 4 0 1 3 }

pub one_source : source_line Flown 0 both ≡ ascii "A radio 1 frames 12 repaired 7 caller frames 8 repaired 3 missed 2 repeats 0 last 14 responder frames 4 repaired 4 missed 0 repeats 1 last 3\n"
unfolding source_line source_opening lane_text form_of decimal_of
one_source = refl

pub one_lane : source_line Corrected 97 (record { caller = silent_lane; responder = lane 1 0 0 0 11 })
    ≡ ascii "source 97 frames 1 repaired 0 caller frames 0 repaired 0 missed 0 repeats 0 last - responder frames 1 repaired 0 missed 0 repeats 0 last 11\n"
unfolding source_line source_opening lane_text form_of decimal_of
one_lane = refl

pub one_refusal : refused_frames 3 2 ≡ ascii "refused 3 frames 2\n"
unfolding form_of decimal_of
one_refusal = refl

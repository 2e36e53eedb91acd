-- The papers' worked lines.
-- Assumes nothing.
use Rattle.std.specs.Prelude.{None, Some}
use mathlib.Core.Path.{◌≡◌, refl}
use Rattle.base.specs.declared.Edition.TheVariants.{Flown, Corrected}
use Rattle.text.specs.Text.{ascii, decimal_of}
use Rattle.text.specs.Forms.{form_of}
use Rattle.lines.specs.Lines.{accepted_line}
use Rattle.lines.specs.Recordings.{stop_of, last_of, ending_of}

-- "An accepted record reads `3 accepted B radio 2 tx 5 repaired 7 bytes 42`": record 3, of source 3
pub one_line : accepted_line Flown 3 3 5 7 4 (ascii " bytes ") 42 ≡ ascii "3 accepted B radio 2 tx 5 repaired 7 worst 4 bytes 42\n"
unfolding form_of decimal_of
one_line = refl

-- "the listing writes `source 97`"
pub source_line_lem : accepted_line Corrected 3 97 5 7 4 (ascii " bytes ") 42 ≡ ascii "3 accepted source 97 tx 5 repaired 7 worst 4 bytes 42\n"
unfolding form_of decimal_of
source_line_lem = refl

-- the lines of a search
pub one_report : accepted_line Flown 1042 0 14 0 0 (ascii " length ") 62 ≡ ascii "1042 accepted A radio 1 tx 14 repaired 0 worst 0 length 62\n"
unfolding form_of decimal_of
one_report = refl

pub one_stop : stop_of (Some (record { number = 19; place = 77 })) ≡ ascii "stopped 19 77\n"
unfolding form_of decimal_of
one_stop = refl

pub one_ending : ending_of 34560000 (record { accepted = 1; refused = 1 }) None ≡ ascii "bits 34560000 headers 2 accepted 1 refused 1\n"
unfolding last_of form_of decimal_of
one_ending = refl

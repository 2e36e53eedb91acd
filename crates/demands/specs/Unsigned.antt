-- The rows by which a header and a frame were judged before call signs came in: "Without them a frame is judged as before".
-- Assumes nothing.
use Rattle.std.specs.Prelude.{List, [], ◌∷◌, ◌++◌}
use Rattle.base.specs.Checks.{Check}
use Rattle.air.specs.WordRepairs.{flips_in}
use Rattle.header.specs.Answers.{Answer}
use Rattle.header_reader.specs.Reading.{Signal, arrived, repaired_bits, limit_above42, not210_long, no_bit, beyond_repair, flips_above_limit, crc5_differs, unknown_source, unknown_coding}
use Rattle.frame.specs.Frames.{Frame, repaired_header, payload_checks}

abbrev pub header_checks_before : Signal → List (Check Answer)
header_checks_before s =
    limit_above42 s
    ∷ not210_long s
    ∷ no_bit s
    ∷ beyond_repair s
    ∷ flips_above_limit s.rules (flips_in (arrived s))
    ∷ crc5_differs s.rules.edition (repaired_bits s)
    ∷ unknown_source s.rules.edition (repaired_bits s)
    ∷ unknown_coding (repaired_bits s)
    ∷ []

abbrev pub frame_checks_before : Frame → List (Check Answer)
frame_checks_before f = header_checks_before f.head ++ payload_checks (repaired_header f) f.payload

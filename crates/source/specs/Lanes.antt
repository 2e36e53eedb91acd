-- A source's record: its two lanes, what an accepted frame changes there, and the sums over both. Lists of records, of any length.
-- Assumes nothing.
use Rattle.std.specs.Prelude.{ℕ, ◌+◌, Bool, false, cond, not, ◌&&◌, List, [], ◌∷◌, ◌==◌, nat_lt, slice_index_or, slice_set, Ok, Err}
use Rattle.base.specs.Lists.{sum_to}
use Rattle.header.specs.declared.Header.{Header}
use Rattle.header.specs.Answers.{Answer}
use Rattle.source.specs.declared.Lane.{Lane}
use Rattle.source.specs.declared.Source.{Source}
use Rattle.source.specs.declared.Display.{Display}
use Rattle.source.specs.Records.{silent_lane, next_of, Own}

-- "A radio keeps one frame counter as caller and another as responder"
pub data Role : Type 0 where
  as_caller : Role
  as_responder : Role

abbrev pub lanes : ℕ
lanes = 2

-- "Each source's sheet record splits into two lanes by the Caller bit", that of the repaired header: 1 is the caller's, 0 the
-- responder's
abbrev pub is_caller : Header → Bool
is_caller h = h.«fields».«caller» == 1

abbrev pub sent_as : Role → Header → Bool
sent_as as_caller h = is_caller h
sent_as as_responder h = not (is_caller h)

abbrev pub lane_of : Role → Source → Lane
lane_of as_caller s = s.caller
lane_of as_responder s = s.responder

-- a source that was never heard
abbrev pub silent : Source
silent = record { caller = silent_lane; responder = silent_lane }

-- "each with its own last counter, missed and repeats": a lane hears its own accepted frames, and stays as it is at the other's
abbrev pub lane_after : Role → Source → Header → ℕ → Lane
lane_after role s h flips = cond (sent_as role h) (next_of (lane_of role s) h.«fields».fr_cnt_tx flips) (lane_of role s)

unfoldable pub hear_of : Source → Header → ℕ → Source
hear_of s h flips = record { caller = lane_after as_caller s h flips; responder = lane_after as_responder s h flips }

-- "accepted and repaired stay per lane and are added for display"
abbrev pub frames_of : Source → ℕ
frames_of s = s.caller.frames + s.responder.frames

abbrev pub repaired_of : Source → ℕ
repaired_of s = s.caller.repaired + s.responder.repaired

abbrev pub summed_of : Source → Display
summed_of s = record { caller = s.caller; responder = s.responder; frames = frames_of s; repaired = repaired_of s }

-- the record of a source
abbrev pub source_in : List Source → ℕ → Source
source_in sources k = slice_index_or sources k silent

-- "one per SrcId"
abbrev pub record_of : Header → ℕ
record_of h = h.«fields».src_id

-- an accepted frame changes its source's record
abbrev pub heard_in : List Source → Header → ℕ → List Source
heard_in sources h flips = slice_set sources (record_of h) (hear_of (source_in sources (record_of h)) h flips)

-- frames accepted over n sources
abbrev pub accepted_in : ℕ → List Source → ℕ
accepted_in n sources = sum_to n (λ k. frames_of (source_in sources k))

-- of n sources, one's numbers for display. One without a record has those of a source that was never heard.
abbrev pub display_in : ℕ → List Source → ℕ → Display
display_in n sources k = summed_of (cond (nat_lt k n) (source_in sources k) silent)

-- THE LANES OF RECORD k
-- whether an answer is that to an accepted frame of a lane
abbrev pub of_lane : ℕ → Role → Answer → Bool
of_lane k role (Ok a) = record_of a.header == k && sent_as role a.header
of_lane k role (Err why) = false

-- what a lane hears of an answer: of its own accepted frames
abbrev pub own_in : ℕ → Role → Answer → List Own
own_in k role (Ok a) = cond (of_lane k role (Ok a)) (record { counter = a.header.«fields».fr_cnt_tx; flips = a.flips } ∷ []) []
own_in k role (Err why) = []

-- Events of the Trace Event Format, and how each is written.
use Rattle.std.specs.Prelude.{ℕ, ◌-◌, List, ◌++◌}
use Rattle.std.specs.Fmt.{decimal}
use Rattle.std.specs.List.{flat_map}
use Rattle.syn_base.specs.Bytes.{Bytes}
use Rattle.self_timed.specs.declared.Source.{Source}
use Rattle.trace_events.specs.declared.event.Moment.{Moment}
use Rattle.trace_events.specs.declared.event.Reader.{Reader}
use Rattle.trace_events.specs.declared.word.Word.TheVariants as word
use Rattle.trace_events.specs.Words.{word_text}

-- an act: what the picture calls it, of which category it is, and in which lane and when it lasts
pub record Slice : Type 0 where
  pub name : Bytes
  pub category : Bytes
  pub lane : ℕ
  pub moment : Moment

-- where a value that was carried leaves its transfer, or reaches one who reads it
pub record Flow : Type 0 where
  pub source : Source
  pub at : Reader

-- a lane has this name after this word; an act lasts; a carried value leaves; it arrives
pub data Event : Type 0 where
  thread : ℕ → Bytes → Bytes → Event
  lasts : Slice → Event
  leaves : Flow → Event
  arrives : Flow → Event

-- the one process, and the thread which is the lane
unfoldable pub place_text : ℕ → Bytes
place_text n = word_text word.Place ++ decimal n

-- a name after a word
unfoldable pub name_text : Bytes → Bytes → Bytes
name_text kind name =
    word_text word.Name ++ (kind ++ (word_text word.Blank ++ (name ++ word_text word.NameEnd)))

-- the name of a thread, and its place among the others
abbrev pub lane_text : ℕ → Bytes → Bytes → Bytes
lane_text n kind name = word_text word.LaneName ++ (place_text n ++ name_text kind name)

-- The event by which a viewer puts lane n in its order among the lanes, which is that of their
-- numbers.
abbrev pub rank_text : ℕ → Bytes
rank_text n =
    word_text word.Rank ++ (place_text n ++
    (word_text word.RankNumber ++ (decimal n ++ word_text word.End)))

-- when it starts, and how long it lasts
unfoldable pub moment_text : Moment → Bytes
moment_text m =
    word_text word.Start ++ (decimal m.start ++ (word_text word.Lasting ++
    decimal (m.end - m.start)))

-- what stands after the name
unfoldable pub rest_of_slice : Bytes → ℕ → Moment → Bytes
rest_of_slice category n m =
    word_text word.Category ++ (category ++ (moment_text m ++ (place_text n ++
    (word_text word.Reaction ++ (decimal m.reaction ++ word_text word.End)))))

-- The complete event of a slice: its name and category, its start and duration in ticks, its lane,
-- and the number of its reaction.
abbrev pub slice_text : Slice → Bytes
slice_text s = word_text word.Slice ++ (s.name ++ rest_of_slice s.category s.lane s.moment)

-- The number of the value on the operator in the reaction: four decimals, between which `a` stands,
-- read as one
-- hexadecimal number, so that no two values have the same.
unfoldable pub number_text : Source → Reader → Bytes
number_text s r =
    decimal r.reaction ++ (word_text word.Between ++ (decimal s.vertex ++
    (word_text word.Between ++ (decimal s.port ++
    (word_text word.Between ++ decimal r.operator)))))

-- the end of a flow, of which the phase was told
unfoldable pub rest_of_flow : Source → Reader → Bytes
rest_of_flow s r =
    word_text word.Number ++ (number_text s r ++ (word_text word.Date ++ (decimal r.date ++
    (place_text r.lane ++
    word_text word.FlowEnd))))

-- The event that begins a flow: the value of a source leaves the transfer that brings it.
abbrev pub leaves_text : Source → Reader → Bytes
leaves_text s r = word_text word.Leaves ++ rest_of_flow s r

-- The event that ends a flow: the value of a source reaches an act that reads it.
abbrev pub arrives_text : Source → Reader → Bytes
arrives_text s r = word_text word.Arrives ++ rest_of_flow s r

-- The text of an event, which begins with a comma and a line feed. That of a thread is two events,
-- one for its name and one for its order.
abbrev pub event_text : Event → Bytes
event_text (thread n kind name) = lane_text n kind name ++ rank_text n
event_text (lasts s) = slice_text s
event_text (leaves f) = leaves_text f.source f.at
event_text (arrives f) = arrives_text f.source f.at

-- each event after a comma
abbrev pub text_of : List Event → Bytes
text_of events = flat_map event_text events

-- the list of all events begins with the name of the process
abbrev pub opening : Bytes
opening = word_text word.Opening

-- The end of the list of all events, and of the file.
abbrev pub closing : Bytes
closing = word_text word.Closing

-- a file of these events
abbrev pub file_of : List Event → Bytes
file_of events = opening ++ (text_of events ++ closing)

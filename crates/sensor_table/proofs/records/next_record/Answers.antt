use Rattle.std.proofs.Common.{◌∙◌, [], inl}
use Rattle.csv.specs.Records.{fields_of}
use Rattle.sensor_table.proofs.Taken.{took, took_none}
use Rattle.sensor_table.proofs.records.next_record.Goals as goal

pub returns-in-Some-Ok : goal.returns-in-Some-Ok
returns-in-Some-Ok c =
    let all = rw c.in-Some-Ok.field-0-is at (c.in-Some-Ok.ensures.steps c.requires.turns c.requires.trim) in
    let row = all.0 c.requires.ready in
    let more = took c.args.records.now.rdr c.next.new.self.rdr (fields_of c.in-Some-Ok.record) c.requires.config c.requires.bytes row.0 in (
      more.0,
      record {
        trim = row.0.3 ∙ c.requires.trim;
        ready = inl row.1;
        config = row.0.2 ∙ c.requires.config;
        flexible = all.3 ∙ c.requires.flexible;
        turns = row.2;
        bytes = more.1;
      },
    )

pub returns-in-None : goal.returns-in-None
returns-in-None c =
    let row = (c.in-None.ensures.steps c.requires.turns c.requires.trim).0 c.requires.ready in
    took_none c.args.records.now.rdr c.next.new.self.rdr [] c.requires.config c.requires.bytes row

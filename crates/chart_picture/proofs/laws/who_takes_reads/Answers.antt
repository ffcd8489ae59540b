use Rattle.chart_picture.proofs.Reading.{who_takes_reads}
use Rattle.chart_picture.proofs.laws.who_takes_reads.Goals as goal

pub returns : goal.returns
returns c = who_takes_reads

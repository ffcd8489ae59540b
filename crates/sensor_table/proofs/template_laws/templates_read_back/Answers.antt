use Rattle.sensor_table.proofs.ReadBack.{reads_back}
use Rattle.sensor_table.proofs.template_laws.templates_read_back.Goals as goal

pub returns : goal.returns
returns c = reads_back

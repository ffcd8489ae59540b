use Rattle.command_status.proofs.line.write_line.Goals as goal

pub returns-in-WriteFault : goal.returns-in-WriteFault
returns-in-WriteFault g c = rw c.in-WriteFault.is c.write_whole-in-WriteFault.ensures

pub returns-in-OutOfMemory : goal.returns-in-OutOfMemory
returns-in-OutOfMemory g c = rw c.in-OutOfMemory.is c.write_whole-in-OutOfMemory.ensures

pub returns-in-ReadFault : goal.returns-in-ReadFault
returns-in-ReadFault g c = rw (c.in-ReadFault.is, ← c.word_of.ensures) c.write_pieces.ensures

pub returns-in-AlgoRefused : goal.returns-in-AlgoRefused
returns-in-AlgoRefused g c = rw c.in-AlgoRefused.is c.write_algorithm.ensures

pub returns-in-SensorsRefused : goal.returns-in-SensorsRefused
returns-in-SensorsRefused g c = rw c.in-SensorsRefused.is c.write_sensors.ensures

pub returns-in-ArchiRefused : goal.returns-in-ArchiRefused
returns-in-ArchiRefused g c = rw c.in-ArchiRefused.is c.write_described.ensures

pub returns-in-CodeRefused : goal.returns-in-CodeRefused
returns-in-CodeRefused g c = rw c.in-CodeRefused.is c.write_code.ensures

pub returns-in-CheckRefused : goal.returns-in-CheckRefused
returns-in-CheckRefused g c = rw c.in-CheckRefused.is c.write_check.ensures

pub returns-in-ActualRefused : goal.returns-in-ActualRefused
returns-in-ActualRefused g c = rw c.in-ActualRefused.is c.write_durations.ensures

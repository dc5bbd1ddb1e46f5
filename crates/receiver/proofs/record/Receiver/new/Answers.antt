use Rattle.reception.proofs.CleanBurstsHold.{clean_bursts}
use Rattle.receiver.proofs.record.Receiver.new.Goals as goal

pub returns-clause-clean : goal.returns-clause-clean
returns-clause-clean g c = clean_bursts

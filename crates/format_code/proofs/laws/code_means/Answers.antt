use Rattle.format_code.proofs.Means.{reads_back, means_writes, text_means}
use Rattle.format_code.proofs.laws.code_means.Goals as goal

pub returns-clause-reads_back : goal.returns-clause-reads_back
returns-clause-reads_back c = reads_back

pub returns-clause-writes : goal.returns-clause-writes
returns-clause-writes c = means_writes

pub returns-clause-text : goal.returns-clause-text
returns-clause-text c = text_means

use Rattle.dict_flight_laws.proofs.Moves.{wanted_there}
use Rattle.dict_flight_laws.proofs.laws.wanted_files_are_there.Goals as goal

pub returns : goal.returns
returns c = wanted_there

use Rattle.machine_take.proofs.ChangeFound.{arrival_found, completion_found, buffer_grant_found, station_grant_found, release_found}
use Rattle.machine_take.proofs.change.change_of.Goals as goal

pub returns-in-Arrival : goal.returns-in-Arrival
returns-in-Arrival c = arrival_found c.in-Some.ensures c.in-Arrival.is c.arrival.ensures

pub returns-in-Completion : goal.returns-in-Completion
returns-in-Completion c = completion_found c.in-Some.ensures c.in-Completion.is c.completion.ensures

pub returns-in-BufferGrant : goal.returns-in-BufferGrant
returns-in-BufferGrant c = buffer_grant_found c.in-Some.ensures c.in-BufferGrant.is c.buffer_grant.ensures

pub returns-in-StationGrant : goal.returns-in-StationGrant
returns-in-StationGrant c = station_grant_found c.in-Some.ensures c.in-StationGrant.is c.station_grant.ensures

pub returns-in-Release : goal.returns-in-Release
returns-in-Release c = release_found c.in-Some.ensures c.in-Release.is c.release.ensures

use Rattle.ra_cfg.specs.Hashable.{same_listing_is}
use Rattle.ra_cfg.specs.SameOptions.{same_options_is}
use Rattle.ra_cfg.proofs.SameKept.{listings_of}
use Rattle.ra_cfg.proofs.laws.listings_decide.Goals as goal

pub returns-clause-same : goal.returns-clause-same
returns-clause-same c = same_options_is

pub returns-clause-listings : goal.returns-clause-listings
returns-clause-listings c = same_listing_is

pub returns-clause-listed : goal.returns-clause-listed
returns-clause-listed c = listings_of

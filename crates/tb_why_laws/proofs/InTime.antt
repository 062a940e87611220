-- In one column floats land in time, in reading order.
pub mod HereNodes
pub mod HereWorks
pub mod HereColumns
pub mod GoingOn
pub mod HereStates
pub mod OneColumnStates
pub mod DueStories
pub mod TimelyShows
pub mod TimelyPages
pub mod TimelyFirings
pub mod TimelyRuns
pub mod LandingTimes

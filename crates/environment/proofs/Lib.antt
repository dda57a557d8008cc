-- The store that files mean is a right one, so an environment that was opened stands at a beginning.
pub mod RightStores
pub mod ReachedLaws
-- What an environment knows of its databases.
pub mod Databases
pub mod Bases
-- The first LSN of each transaction.
pub mod Firsts
-- Where an environment stands when its log was written out or synced, or the disk failed.
pub mod Standing
-- The calls that wait.
pub mod Waiting
-- An environment goes on by a step.
pub mod Answering
-- A call that is refused early, and one that is not.
pub mod EarlyLaws
-- A call after a fault.
pub mod InvalidLaws
-- Where an environment stands once a transaction has ended without a commit.
pub mod EndingLaws
-- A call by its kind.
pub mod PerformedLaws
-- The abort of a transaction.
pub mod AbortLaws
-- Where no transaction is under way: what an environment is beside its engine.
pub mod AloneLaws
-- The committed records behind a commit.
pub mod CommitRows
-- Where an environment stands once a transaction has committed.
pub mod CommitLaws
-- What refuses a call on records late, and the database that it is on.
pub mod LateLaws
-- What refuses a call at a cursor late, and where its cursor stands.
pub mod SpotLaws
-- A call on records that is refused late, or goes on.
pub mod AccessLaws
-- A call on records that is refused late.
pub mod RefusedLaws
-- What transactions wrote, after a change of the map.
pub mod NameMaps
-- The beginning of a transaction.
pub mod BeginLaws
-- The names of databases.
pub mod ListLaws
-- A waiting call goes on.
pub mod ResumeLaws
-- What a transaction sees of the database that a call is on.
pub mod PlanLaws
-- A change of the catalog where others are under way.
pub mod CatalogStanding
-- A valid environment goes on by a change of the catalog.
pub mod CatalogValid
-- The kind of a database is the one that the catalog has.
pub mod KindLaws
-- The changes of a call through an index are of one key.
pub mod IndexKeys
-- What comes with changes in the indexes of their database.
pub mod BlockLaws
-- Of which databases the changes of a call are, and that it may make them.
pub mod CallChanges
-- Changes that a call may make, as own changes, as entries and as changes of the store.
pub mod ChangeLaws
-- A call on records that is a transaction of its own, among others.
pub mod AutoLaws
-- It waits, or changes nothing.
pub mod AutoEnds
-- What its changes leave of records, and of the own changes of others.
pub mod AutoRows
-- Its plan, and its changes.
pub mod AutoChanges
-- What is logged of its changes.
pub mod AutoPlans
-- It meets no lock where no transaction is under way.
pub mod AutoAlone
-- What it may ask.
pub mod AutoCalls
-- What transactions wrote, where room was made.
pub mod WrittenNames
-- What the changes of a call are where it may write them.
pub mod WritingLaws
-- Where an environment stands once changes were to be logged.
pub mod OwnLogged
-- How a change of the catalog ends.
pub mod CatalogEnds
-- A change of the catalog is logged.
pub mod CatalogLogged
-- What is known of databases behind a change of the catalog.
pub mod KnownChanges
-- What is known of databases follows a change of the catalog: what was held for it is settled.
pub mod HoldingLaws
-- A change of the catalog that was logged, or not, is followed by what is known of databases.
pub mod FollowLaws
-- It is logged with its Commit, or not.
pub mod AutoLogged
-- A call on records in a transaction.
pub mod OwnLaws
-- The names of the records that a transaction sees.
pub mod SeenNames
-- The changes of a call that is not refused.
pub mod LoggableLaws
-- What a call on records answers.
pub mod RecordAnswers
-- A call of a transaction that changes nothing.
pub mod FinishLaws
-- Where an environment stands once a call that changes something has ended.
pub mod OwnEnds
-- A call that waited, and is a transaction of its own.
pub mod AgainLaws
-- It changes something: what its ends leave of the log and of the standing.
pub mod CommitAgain
-- How it ends, by what became of its changes.
pub mod AgainEnds
-- Where cursors stand behind a call.
pub mod PlacesLaws
-- Whose the names are that a transaction wrote.
pub mod OwnFree
-- Calls that open and close cursors.
pub mod CursorLaws
-- A valid environment whose log got an entry of a checkpoint.
pub mod TurnedLogs
-- Where an environment stands behind a step of maintenance.
pub mod TurningLaws
-- What each step of maintenance comes to.
pub mod TurningSteps
-- What it comes to by what the checkpointer says.
pub mod TurningAnswers
-- The least first LSN of the transactions under way.
pub mod LeastFirst
-- The keys of an index are short.
pub mod ShortKeys
-- The databases of a target are there.
pub mod TargetThere
-- The databases beside that of a call.
pub mod BesideLaws
-- The database of a name, by the catalog's record of it.
pub mod FoundDatabases

pub mod RemovedLaws

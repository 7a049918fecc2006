pub mod LeadsLaws

pub mod Faults
pub mod Contents
pub mod OpenSheets
pub mod Slots
pub mod Workbooks
pub mod Layers
pub mod Layering
pub mod Slotting

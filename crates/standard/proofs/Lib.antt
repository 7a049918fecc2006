pub mod UsbLaws
pub mod XhciLaws

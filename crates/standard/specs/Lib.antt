pub mod Usb
pub mod Xhci
pub mod Control
pub mod Examples
